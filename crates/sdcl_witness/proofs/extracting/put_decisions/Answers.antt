use Rattle.std.proofs.Common.{arith, ◌≡◌, ◌≤◌, ◌+◌, ◌∷◌, ◌++◌, [], length, sym, ap, ◌∙◌}
use Rattle.sdcl_base.specs.Literal.{Clause, complements, without}
use Rattle.sdcl_base.specs.Marks.{no_repeats}
use Rattle.sdcl_trail.specs.Levels.{decisions}
use Rattle.sdcl_witness.specs.Witnesses.{complements_after}
use Rattle.sdcl_witness.proofs.Levelled.{below, below_yes, below_no, below_none, below_all, below_rest, decisions_in, decisions_few, decisions_once}
use Rattle.sdcl_witness.proofs.Fronts.{after_append, after_fits, after_once}
use Rattle.sdcl_witness.proofs.extracting.put_decisions.Goals as goal
use Rattle.sdcl_witness.proofs.extracting.put_decisions.Goals.{in-Some, in_default}

pub begin-requires : goal.begin-requires
begin-requires c =
    let t = c.args.trail.now in
    let s : (1 ≤ c.args.first.var) × (c.args.first.var ≤ t.variables) = c.level-end.ensures.sound.within c.args.first (decisions_in t c.args.first c.requires.first) in
    omega (arith, s.0, s.1, c.requires.room)

pub loop-level-init : goal.loop-level-init
loop-level-init c = record {
  lits = c.begin.ensures.lits ∙ ap (complements_after c.args.first) (sym (below_none c.args.trail.now));
  room = c.begin.ensures.room;
}

pub put_other-requires : goal.put_other-requires
put_other-requires c =
    let t = c.args.trail.now in
    let k = c.loop-level.level in
    let d = c.in-Some.decision in
    let more : below t (k + 1) ≡ below t k ++ d ∷ [] = below_yes t k d c.loop-level.auto.level (omega (arith, c.loop-level-test.true, c.level-end.ensures.value)) (sym c.decision.ensures ∙ c.in-Some.is) in
    let rest : (r : Clause) × (decisions t ≡ below t (k + 1) ++ r) = below_rest t (k + 1) (omega arith) in
    let fits : length (complements_after c.args.first (below t k)) + length (without (d ∷ []) c.args.first) ≤ length (decisions t) =
    after_fits c.args.first (decisions t) (below t k) (d ∷ []) rest.0 (rest.1 ∙ ap (λ (x : Clause). x ++ rest.0) more) c.requires.first in
    omega (arith, fits, ap length c.loop-level.invariant.lits, decisions_few t, c.level-end.ensures.sound.fits, c.requires.room, c.loop-level.invariant.room)

pub loop-level-preserved : goal.loop-level-preserved
loop-level-preserved c =
    let t = c.args.trail.now in
    let k = c.loop-level.level in
    let high : k ≤ length t.starts = omega (arith, c.loop-level-test.true, c.level-end.ensures.value) in
    elim c.match-decision.branch [
      | in-Some w ↦
          let d = w.in-Some.decision in
          let more : below t (k + 1) ≡ below t k ++ d ∷ [] = below_yes t k d c.loop-level.auto.level high (sym c.decision.ensures ∙ w.in-Some.is) in
          record {
            lits = ap (λ v. v.items) w.out-is ∙ w.put_other.ensures.lits ∙ ap (λ (x : Clause). x ++ complements (without (d ∷ []) c.args.first)) c.loop-level.invariant.lits
                ∙ sym (ap (complements_after c.args.first) more ∙ after_append c.args.first (below t k) (d ∷ []));
            room = rw w.out-is (omega (arith, w.put_other.ensures.room, c.loop-level.invariant.room));
          }
      | in_default w ↦ record {
        lits = ap (λ v. v.items) w.out-is ∙ c.loop-level.invariant.lits ∙ ap (complements_after c.args.first) (sym (below_no t k c.loop-level.auto.level high (sym c.decision.ensures ∙ w.in_default.is)));
        room = rw w.out-is c.loop-level.invariant.room;
      }
    ]

pub returns-clause-lits : goal.returns-clause-lits
returns-clause-lits c =
    c.loop-level.invariant.lits ∙ ap (complements_after c.args.first) (below_all c.args.trail.now c.loop-level.level (omega (arith, c.loop-level-test.false, c.level-end.ensures.value)))

pub returns-clause-distinct : goal.returns-clause-distinct
returns-clause-distinct c =
    ap no_repeats (returns-clause-lits c) ∙ after_once c.args.first (decisions c.args.trail.now) (decisions_once c.args.trail.now c.level-end.ensures.sound.apart)
