use Rattle.std.proofs.Common.{arith, ◌≡◌, ◌∷◌, ◌++◌, [], ℕ, List, sym, ap, subst, refl, ◌∙◌}
use Rattle.sdcl_base.specs.Literal.{Literal}
use Rattle.sdcl_base.specs.Sets.{In}
use Rattle.sdcl_trail.specs.Levels.{entries, reason_in, levels_of}
use Rattle.sdcl_analyze.specs.declared.minimising.Frame.{Frame}
use Rattle.sdcl_analyze.specs.declared.minimising.Standing.TheVariants as standing
use Rattle.sdcl_analyze.specs.Numbers.{Numbers, has_number, adjoined}
use Rattle.sdcl_analyze.specs.Marking.{lower_lits}
use Rattle.sdcl_analyze.specs.Searching.{Searched, standing_of}
use Rattle.sdcl_analyze.proofs.Numbers.{joined_own}
use Rattle.sdcl_analyze.proofs.Covered.{Grounds, grounds}
use Rattle.sdcl_analyze.proofs.Search.{Says, says, knows_now, low_within, search_enter}
use Rattle.sdcl_analyze.proofs.minimising.is_covered.Goals as goal

pub known-requires : goal.known-requires
known-requires g c =
    let w = low_within c.args.trail.now c.level-level.ensures.sound c.requires.below.0 c.requires.below.1 in
    let e = c.requires.below.2 in
    (omega (arith, w, e, c.requires.room.1), omega (arith, w, e, c.requires.room.2))

pub returns-in-Covered-clause-value : goal.returns-in-Covered-clause-value
returns-in-Covered-clause-value g c =
    let slots = g.C.Clauses.clauses c.args.clauses.now in
    let t = c.args.trail.now in
    let gr : Grounds slots t = grounds slots t c.level-level.ensures.sound c.requires.fits.0 c.requires.fits.1 in
    λ k i e.
    let n = knows_now slots t c.args.seen.now.members c.args.entered.now.members c.args.covered.now.members (subst (Searched slots t c.args.seen.now.members c.args.entered.now.members c.args.covered.now.members) c.requires.empty c.requires.searched) k i in
    sym (subst (Says slots t c.args.seen.now.members c.args.entered.now.members k) c.in-Covered.is
    (says slots t c.args.seen.now.members c.args.entered.now.members c.args.covered.now.members k c.known.result gr i n (c.known.ensures ∙ ap (standing_of t c.args.entered.now.members c.args.covered.now.members) (sym e))))

pub returns-in-Uncovered-clause-value : goal.returns-in-Uncovered-clause-value
returns-in-Uncovered-clause-value g c =
    let slots = g.C.Clauses.clauses c.args.clauses.now in
    let t = c.args.trail.now in
    let gr : Grounds slots t = grounds slots t c.level-level.ensures.sound c.requires.fits.0 c.requires.fits.1 in
    λ k i e.
    let n = knows_now slots t c.args.seen.now.members c.args.entered.now.members c.args.covered.now.members (subst (Searched slots t c.args.seen.now.members c.args.entered.now.members c.args.covered.now.members) c.requires.empty c.requires.searched) k i in
    sym (subst (Says slots t c.args.seen.now.members c.args.entered.now.members k) c.in-Uncovered.is
    (says slots t c.args.seen.now.members c.args.entered.now.members c.args.covered.now.members k c.known.result gr i n (c.known.ensures ∙ ap (standing_of t c.args.entered.now.members c.args.covered.now.members) (sym e))))

pub enter-requires-clause-within : goal.enter-requires-clause-within
enter-requires-clause-within g c =
    omega (arith, low_within c.args.trail.now c.level-level.ensures.sound c.requires.below.0 c.requires.below.1, c.requires.below.2, c.requires.room.1)

pub loop-frame-init : goal.loop-frame-init
loop-frame-init g c =
    let slots = g.C.Clauses.clauses c.args.clauses.now in
    let t = c.args.trail.now in
    let seen = c.args.seen.now.members in
    let entered = c.args.entered.now.members in
    let covered = c.args.covered.now.members in
    let gr : Grounds slots t = grounds slots t c.level-level.ensures.sound c.requires.fits.0 c.requires.fits.1 in
    let k : Literal = c.requires.below.0 in
    let i : In (lower_lits (levels_of t)) k = c.requires.below.1 in
    let e : k.var ≡ c.args.var = c.requires.below.2 in
    let s : Searched slots t seen entered covered [] = subst (Searched slots t seen entered covered) c.requires.empty c.requires.searched in
    let u : Says slots t seen entered k (standing.Unknown c.in-Unknown.reason) = subst (Says slots t seen entered k) c.in-Unknown.is
    (says slots t seen entered covered k c.known.result gr i (knows_now slots t seen entered covered s k i) (c.known.ensures ∙ ap (standing_of t entered covered) (sym e))) in
    let f : Frame = record { var = c.args.var; reason = c.in-Unknown.reason; at = 0 } in
    let m : c.enter.new.entered.members ≡ adjoined entered c.args.var = ap (λ (x : Numbers). x.members) c.enter.ensures.entered in
    record {
      searched = subst (Searched slots t seen c.enter.new.entered.members covered) (sym (c.enter.ensures.items ∙ ap (λ (z : List Frame). z ++ f ∷ []) c.requires.empty))
          (search_enter slots t seen entered covered c.enter.new.entered.members [] f s (ap (has_number entered) (sym e) ∙ u.2) k u.0 e (ap (reason_in (entries (levels_of t))) (sym e) ∙ u.1) refl m c.enter.ensures.length.0 (λ x j. absurd j));
      there = ap (λ (x : List ℕ). has_number x c.args.var) m ∙ joined_own entered c.args.var;
      entered = ap (λ (x : Numbers). x.room) c.enter.ensures.entered;
      covered = refl;
      memory = (let r : c.enter.new.entered.room ≡ c.args.entered.now.room = ap (λ (x : Numbers). x.room) c.enter.ensures.entered in let q = c.enter.ensures.memory in omega (arith, r, q, c.requires.memory));
    }

pub contains-requires : goal.contains-requires
contains-requires g c =
    omega (arith, low_within c.args.trail.now c.level-level.ensures.sound c.requires.below.0 c.requires.below.1, c.requires.below.2, c.requires.room.2, c.loop-frame.invariant.covered)
