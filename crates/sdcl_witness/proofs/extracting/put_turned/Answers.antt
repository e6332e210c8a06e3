use Rattle.std.proofs.Common.{arith, ◌≡◌, ◌≤◌, ◌<◌, ◌+◌, ◌∷◌, ◌++◌, [], length, take, drop, get_or, true, not, sym, ap, ◌∙◌, rules}
use Rattle.std.proofs.lemmas.List.{take_more, take_all}
use Rattle.sdcl_base.specs.Literal.{Literal, Clause, without}
use Rattle.sdcl_base.specs.Marks.{no_repeats}
use Rattle.sdcl_base.specs.Sets.{In}
use Rattle.sdcl_base.specs.Truth.{makes_true}
use Rattle.sdcl_base.specs.Values.{truth_of}
use Rattle.sdcl_base.proofs.In.{in_filter_from}
use Rattle.sdcl_trail.proofs.Arrays.{in_at}
use Rattle.sdcl_witness.specs.Witnesses.{turned, complements_after}
use Rattle.sdcl_witness.proofs.Levelled.{once_apart}
use Rattle.sdcl_witness.proofs.Fronts.{filter_short, filter_once, turned_yes, turned_rest, after_fits, after_once}
use Rattle.sdcl_witness.proofs.extracting.put_turned.Goals as goal

pub begin-requires : goal.begin-requires
begin-requires c =
    let t = c.args.trail.now in
    let i : In t.lits c.args.first × (not (makes_true (truth_of c.args.model.now) c.args.first) ≡ true) = in_filter_from (λ l. not (makes_true (truth_of c.args.model.now) l)) t.lits c.args.first c.requires.first in
    let s : (1 ≤ c.args.first.var) × (c.args.first.var ≤ t.variables) = c.lits-lits.ensures.sound.within c.args.first i.0 in
    omega (arith, s.0, s.1, c.requires.room)

pub is_false-requires : goal.is_false-requires
is_false-requires c =
    let lits = c.args.trail.now.lits in
    let b : c.loop-l.l-index < length lits = search rules in
    let e : c.l-item.result ≡ get_or lits c.loop-l.l-index c.l-item.result = search rules in
    c.requires.total c.l-item.result (in_at lits c.loop-l.l-index c.l-item.result b e)

pub put_other-requires : goal.put_other-requires
put_other-requires c =
    let lits = c.args.trail.now.lits in
    let v = truth_of c.args.model.now in
    let i = c.loop-l.l-index in
    let l = c.l-item.result in
    let b : i < length lits = search rules in
    let e : l ≡ get_or lits i l = search rules in
    let more : turned v (take (i + 1) lits) ≡ turned v (take i lits) ++ l ∷ [] =
    ap (turned v) (take_more lits i l b ∙ ap (λ (m : Literal). take i lits ++ m ∷ []) (sym e)) ∙ turned_yes v (take i lits) l (sym c.is_false.ensures ∙ c.if-is_false.true) in
    let fits : length (complements_after c.args.first (turned v (take i lits))) + length (without (l ∷ []) c.args.first) ≤ length (turned v lits) =
    after_fits c.args.first (turned v lits) (turned v (take i lits)) (l ∷ []) (turned v (drop (i + 1) lits))
    (turned_rest v lits (i + 1) ∙ ap (λ (x : Clause). x ++ turned v (drop (i + 1) lits)) more) c.requires.first in
    omega (arith, fits, ap length c.loop-l.invariant.lits, filter_short (λ m. not (makes_true v m)) lits, c.lits-lits.ensures.sound.fits, c.requires.room, c.loop-l.invariant.room)

pub returns-clause-distinct : goal.returns-clause-distinct
returns-clause-distinct c =
    let lits = c.args.trail.now.lits in
    let v = truth_of c.args.model.now in
    let whole : take c.loop-l.l-index lits ≡ lits = take_all c.loop-l.l-index lits (omega (arith, c.loop-l-test.false, ap length c.lits-lits.ensures.value)) in
    let all : c.loop-l.out.items ≡ complements_after c.args.first (turned v lits) = c.loop-l.invariant.lits ∙ ap (λ (x : Clause). complements_after c.args.first (turned v x)) whole in
    ap no_repeats all ∙ after_once c.args.first (turned v lits) (filter_once (λ m. not (makes_true v m)) lits (once_apart lits c.lits-lits.ensures.sound.apart))
