use Rattle.std.proofs.Common.{arith, ◌≡◌, ◌<◌, ◌+◌, ◌++◌, ◌∷◌, [], ℕ, true, cond, List, take, length, sym, ap, subst, ◌∙◌}
use Rattle.std.proofs.lemmas.List.{take_more}
use Rattle.sdcl_base.specs.Literal.{Clause}
use Rattle.sdcl_store.specs.Slots.{clause_of}
use Rattle.sdcl_analyze.proofs.Places.{at_place, in_place}
use Rattle.sdcl_analyze.specs.Numbers.{Numbers, with_number, with_variables, has_number}
use Rattle.sdcl_analyze.specs.Marking.{BecomeSeen, last_lits}
use Rattle.sdcl_analyze.proofs.Numbers.{all_holds, joined_end}
use Rattle.sdcl_analyze.proofs.Counting.{opens_more, markable_more}
use Rattle.sdcl_analyze.proofs.marking.mark_all.Goals as goal
use Rattle.sdcl_analyze.proofs.marking.mark_all.Goals.{then-mark, else-mark}
use Rattle.sdcl_trail.specs.Levels.{levels_of}

pub mark-requires-clause-on : goal.mark-requires-clause-on
mark-requires-clause-on g c =
    let d = clause_of (g.C.Clauses.clauses c.args.clauses.now) c.args.id.0 in
    let h : c.loop-at.at < length d = omega (arith, c.loop-at-test.true, c.length-at-end.ensures.count) in
    markable_more _ c.args.seen.now.members c.loop-at.seen.members c.literal.result (c.requires.on c.literal.result (in_place d c.loop-at.at c.literal.result h (at_place d c.loop-at.at c.literal.result h c.literal.ensures)))
    (λ k. subst (λ (s : Numbers). has_number s.members c.literal.result.var ≡ true) (sym c.loop-at.invariant.seen) (all_holds c.args.seen.now.members (take c.loop-at.at d) c.literal.result.var k))

pub loop-at-preserved : goal.loop-at-preserved
loop-at-preserved g c =
    let d = clause_of (g.C.Clauses.clauses c.args.clauses.now) c.args.id.0 in
    let l = c.literal.result in
    let h : c.loop-at.at < length d = omega (arith, c.loop-at-test.true, c.length-at-end.ensures.count) in
    let t : take (c.loop-at.at + 1) d ≡ take c.loop-at.at d ++ l ∷ [] = take_more d c.loop-at.at l h ∙ ap (λ y. take c.loop-at.at d ++ y ∷ []) (sym (at_place d c.loop-at.at l h c.literal.ensures)) in
    let e : c.if-mark.opened ≡ c.loop-at.opened + cond c.mark.result 1 0 = elim c.if-mark.branch [
      | then-mark w ↦ w.opened-is ∙ ap (λ b. c.loop-at.opened + cond b 1 0) (sym w.if-mark.true)
      | else-mark w ↦ let z : c.loop-at.opened ≡ c.loop-at.opened + 0 = omega arith in w.opened-is ∙ z ∙ ap (λ b. c.loop-at.opened + cond b 1 0) (sym w.if-mark.false)
    ] in
    record {
      seen = c.mark.ensures.seen ∙ ap (λ (s : Numbers). with_number s l.var) c.loop-at.invariant.seen
          ∙ ap (λ (xs : List ℕ). record { room = c.args.seen.now.room; members = xs }) (sym (joined_end c.args.seen.now.members (take c.loop-at.at d) l))
          ∙ ap (λ (x : Clause). with_variables c.args.seen.now x) (sym t);
      gathers = c.mark.ensures.gathers;
      opens = subst (λ (n : ℕ). BecomeSeen (last_lits (levels_of c.args.trail.now)) c.args.seen.now.members c.mark.new.seen.members (take (c.loop-at.at + 1) d) n) (sym e)
          (subst (λ (x : Clause). BecomeSeen (last_lits (levels_of c.args.trail.now)) c.args.seen.now.members c.mark.new.seen.members x (c.loop-at.opened + cond c.mark.result 1 0)) (sym t)
          (opens_more (last_lits (levels_of c.args.trail.now)) c.args.seen.now.members c.loop-at.seen.members c.mark.new.seen.members (take c.loop-at.at d) l c.loop-at.opened (cond c.mark.result 1 0)
          (λ x k. subst (λ (s : Numbers). has_number s.members x ≡ true) (sym c.loop-at.invariant.seen) (all_holds c.args.seen.now.members (take c.loop-at.at d) x k))
          c.loop-at.invariant.opens c.mark.ensures.opens));
      memory = c.mark.ensures.memory;
      few = elim c.if-mark.branch [ then-mark w ↦ omega (arith, w.opened-is, c.loop-at.invariant.few) | else-mark w ↦ omega (arith, w.opened-is, c.loop-at.invariant.few) ];
    }
