use Rattle.std.proofs.Common.{rules, arith, ◌≡◌, ◌≤◌, ◌<◌, ◌+◌, ◌-◌, ◌∙◌, [], ℕ, List, true, false, Some, length, sym, ap, subst, inl, inr}
use Rattle.sdcl_base.specs.Literal.{Literal, Clause, negated, has}
use Rattle.sdcl_base.specs.Sets.{In}
use Rattle.sdcl_base.specs.declared.lit.ClauseId.{ClauseId}
use Rattle.sdcl_base.proofs.In.{all_in, has_in}
use Rattle.sdcl_store.specs.Slots.{is_alive, clause_of}
use Rattle.sdcl_trail.specs.Levels.{lits_of, entries, reason_in, levels_of}
use Rattle.sdcl_analyze.proofs.Places.{in_place}
use Rattle.sdcl_analyze.specs.Numbers.{Numbers, has_number, adjoined, adjoined_all}
use Rattle.sdcl_analyze.specs.Marking.{IsMarkable, BecomeSeen, last_lits}
use Rattle.sdcl_analyze.specs.Walking.{IsPoint}
use Rattle.std.proofs.lemmas.Bool.{false≢true}
use Rattle.sdcl_analyze.proofs.Numbers.{joined_from}
use Rattle.sdcl_analyze.proofs.Ready.{Ready, ready}
use Rattle.sdcl_analyze.proofs.Walking.{Walked, Ahead, Resolves, ahead_at, walk_start, walk_skip, walk_stop, walk_reason, walk_next, walked_below, some_id}
use Rattle.sdcl_analyze.proofs.walk.first_point.Goals as goal

pub mark_all-left-requires-clause-on : goal.mark_all-left-requires-clause-on
mark_all-left-requires-clause-on g c =
    λ l i. inl (has_in (lits_of c.args.trail.now) (negated l) (all_in (λ m. has (lits_of c.args.trail.now) (negated m)) (clause_of (g.C.Clauses.clauses c.args.clauses.now) c.args.conflict.0) l c.requires.conflict.1 i))

pub loop-at-init : goal.loop-at-init
loop-at-init g c =
    let slots = g.C.Clauses.clauses c.args.clauses.now in
    let t = c.args.trail.now in
    let d = clause_of slots c.args.conflict.0 in
    let r : Ready slots t = ready slots t c.lits-lits.ensures.sound c.requires.level c.requires.fits in
    let e : c.args.seen.now.members ≡ [] = ap (λ (s : Numbers). s.members) c.requires.fresh.0 in
    record {
      walked = subst (λ (z : Clause). Walked slots t d (length z) c.mark_all-left.new.seen.members c.args.resolved.now.members c.mark_all-left.result) (sym c.lits-lits.ensures.value)
          (subst (λ (z : List ℕ). Walked slots t d (length (lits_of t)) c.mark_all-left.new.seen.members z c.mark_all-left.result) (sym (ap (λ (z : Numbers). z.members) c.requires.fresh.1))
          (walk_start slots t c.args.conflict.0 c.mark_all-left.new.seen.members c.mark_all-left.result r c.requires.conflict.0 c.requires.conflict.1
          (ap (λ (s : Numbers). s.members) c.mark_all-left.ensures.seen ∙ ap (λ (z : List ℕ). adjoined_all z d) e)
          (subst (λ (z : List ℕ). BecomeSeen (last_lits (levels_of t)) z c.mark_all-left.new.seen.members d c.mark_all-left.result) e c.mark_all-left.ensures.opens)));
      gathers = c.mark_all-left.ensures.gathers;
      range = λ x h. absurd (false≢true (sym (ap (λ (z : Numbers). has_number z.members x) c.requires.fresh.1) ∙ h));
      seen = ap (λ (s : Numbers). s.room) c.mark_all-left.ensures.seen;
      resolved = search rules;
      memory = c.mark_all-left.ensures.memory;
    }

pub contains-requires : goal.contains-requires
contains-requires g c =
    let t = c.args.trail.now in
    let l = c.index-lits-at.result in
    let some : 0 < c.loop-at.at = search rules in
    let h : c.loop-at.at - 1 < length c.lits-lits.result.now = omega (arith, some, c.loop-at.auto.at) in
    let on : In (lits_of t) l = subst (λ (z : Clause). In z l) c.lits-lits.ensures.value (in_place c.lits-lits.result.now (c.loop-at.at - 1) l h c.index-lits-at.is) in
    omega (arith, (c.lits-lits.ensures.sound.within l on).1, c.requires.room.0, c.loop-at.invariant.seen, c.var.ensures.value)

pub returns-then-left-eq1-clause-point : goal.returns-then-left-eq1-clause-point
returns-then-left-eq1-clause-point g c =
    let slots = g.C.Clauses.clauses c.args.clauses.now in
    let t = c.args.trail.now in
    let d = clause_of slots c.args.conflict.0 in
    let r : Ready slots t = ready slots t c.lits-lits.ensures.sound c.requires.level c.requires.fits in
    let l = c.index-lits-at.result in
    let some : 0 < c.loop-at.at = search rules in
    let a : Ahead slots t d (c.loop-at.at - 1) c.loop-at.seen.members c.loop-at.resolved.members c.loop-at.left l =
    ahead_at slots t d c.loop-at.at c.loop-at.seen.members c.loop-at.resolved.members c.loop-at.left c.lits-lits.result.now l r c.loop-at.invariant.walked some c.lits-lits.ensures.value c.index-lits-at.is in
    let f : has_number c.loop-at.seen.members l.var ≡ true = ap (has_number c.loop-at.seen.members) (sym c.var.ensures.value) ∙ sym c.contains.ensures ∙ c.if-contains.true in
    subst (λ (z : Literal). IsPoint slots t d c.loop-at.seen.members z) (sym c.negated.ensures)
    (walk_stop slots t d (c.loop-at.at - 1) c.loop-at.seen.members c.loop-at.resolved.members c.loop-at.left l r a f c.if-left-eq1.true).point

pub returns-then-left-eq1-clause-steps : goal.returns-then-left-eq1-clause-steps
returns-then-left-eq1-clause-steps g c =
    let slots = g.C.Clauses.clauses c.args.clauses.now in
    let t = c.args.trail.now in
    let d = clause_of slots c.args.conflict.0 in
    let r : Ready slots t = ready slots t c.lits-lits.ensures.sound c.requires.level c.requires.fits in
    let l = c.index-lits-at.result in
    let some : 0 < c.loop-at.at = search rules in
    let a : Ahead slots t d (c.loop-at.at - 1) c.loop-at.seen.members c.loop-at.resolved.members c.loop-at.left l =
    ahead_at slots t d c.loop-at.at c.loop-at.seen.members c.loop-at.resolved.members c.loop-at.left c.lits-lits.result.now l r c.loop-at.invariant.walked some c.lits-lits.ensures.value c.index-lits-at.is in
    let f : has_number c.loop-at.seen.members l.var ≡ true = ap (has_number c.loop-at.seen.members) (sym c.var.ensures.value) ∙ sym c.contains.ensures ∙ c.if-contains.true in
    (walk_stop slots t d (c.loop-at.at - 1) c.loop-at.seen.members c.loop-at.resolved.members c.loop-at.left l r a f c.if-left-eq1.true).steps

pub unreachable-requires : goal.unreachable-requires
unreachable-requires g c =
    let slots = g.C.Clauses.clauses c.args.clauses.now in
    let t = c.args.trail.now in
    let d = clause_of slots c.args.conflict.0 in
    let r : Ready slots t = ready slots t c.lits-lits.ensures.sound c.requires.level c.requires.fits in
    let l = c.index-lits-at.result in
    let some : 0 < c.loop-at.at = search rules in
    let a : Ahead slots t d (c.loop-at.at - 1) c.loop-at.seen.members c.loop-at.resolved.members c.loop-at.left l =
    ahead_at slots t d c.loop-at.at c.loop-at.seen.members c.loop-at.resolved.members c.loop-at.left c.lits-lits.result.now l r c.loop-at.invariant.walked some c.lits-lits.ensures.value c.index-lits-at.is in
    let f : has_number c.loop-at.seen.members l.var ≡ true = ap (has_number c.loop-at.seen.members) (sym c.var.ensures.value) ∙ sym c.contains.ensures ∙ c.if-contains.true in
    let w : Resolves slots t d (c.loop-at.at - 1) c.loop-at.seen.members c.loop-at.resolved.members c.loop-at.left l a = walk_reason slots t d (c.loop-at.at - 1) c.loop-at.seen.members c.loop-at.resolved.members c.loop-at.left l r a f c.if-left-eq1.false in
    c.in_default.not-Some w.why.id (c.reason_of.ensures ∙ ap (reason_in (entries (levels_of t))) c.var-then-contains.ensures.value ∙ w.reason)

pub insert-requires : goal.insert-requires
insert-requires g c =
    let t = c.args.trail.now in
    let l = c.index-lits-at.result in
    let some : 0 < c.loop-at.at = search rules in
    let h : c.loop-at.at - 1 < length c.lits-lits.result.now = omega (arith, some, c.loop-at.auto.at) in
    let on : In (lits_of t) l = subst (λ (z : Clause). In z l) c.lits-lits.ensures.value (in_place c.lits-lits.result.now (c.loop-at.at - 1) l h c.index-lits-at.is) in
    omega (arith, (c.lits-lits.ensures.sound.within l on).1, c.requires.room.1, c.loop-at.invariant.resolved, c.var-then-contains-2.ensures.value)

pub mark_all-requires-clause-alive : goal.mark_all-requires-clause-alive
mark_all-requires-clause-alive g c =
    let slots = g.C.Clauses.clauses c.args.clauses.now in
    let t = c.args.trail.now in
    let d = clause_of slots c.args.conflict.0 in
    let r : Ready slots t = ready slots t c.lits-lits.ensures.sound c.requires.level c.requires.fits in
    let l = c.index-lits-at.result in
    let some : 0 < c.loop-at.at = search rules in
    let a : Ahead slots t d (c.loop-at.at - 1) c.loop-at.seen.members c.loop-at.resolved.members c.loop-at.left l =
    ahead_at slots t d c.loop-at.at c.loop-at.seen.members c.loop-at.resolved.members c.loop-at.left c.lits-lits.result.now l r c.loop-at.invariant.walked some c.lits-lits.ensures.value c.index-lits-at.is in
    let f : has_number c.loop-at.seen.members l.var ≡ true = ap (has_number c.loop-at.seen.members) (sym c.var.ensures.value) ∙ sym c.contains.ensures ∙ c.if-contains.true in
    let w : Resolves slots t d (c.loop-at.at - 1) c.loop-at.seen.members c.loop-at.resolved.members c.loop-at.left l a = walk_reason slots t d (c.loop-at.at - 1) c.loop-at.seen.members c.loop-at.resolved.members c.loop-at.left l r a f c.if-left-eq1.false in
    let q : reason_in (entries (levels_of t)) l.var ≡ Some c.in-Some.reason = ap (reason_in (entries (levels_of t))) (sym c.var-then-contains.ensures.value) ∙ sym c.reason_of.ensures ∙ c.in-Some.is in
    let s : w.why.id ≡ c.in-Some.reason = some_id (sym w.reason ∙ q) in
    subst (λ (z : ClauseId). is_alive slots z.0 ≡ true) s w.alive

pub mark_all-requires-clause-on : goal.mark_all-requires-clause-on
mark_all-requires-clause-on g c =
    let slots = g.C.Clauses.clauses c.args.clauses.now in
    let t = c.args.trail.now in
    let d = clause_of slots c.args.conflict.0 in
    let r : Ready slots t = ready slots t c.lits-lits.ensures.sound c.requires.level c.requires.fits in
    let l = c.index-lits-at.result in
    let some : 0 < c.loop-at.at = search rules in
    let a : Ahead slots t d (c.loop-at.at - 1) c.loop-at.seen.members c.loop-at.resolved.members c.loop-at.left l =
    ahead_at slots t d c.loop-at.at c.loop-at.seen.members c.loop-at.resolved.members c.loop-at.left c.lits-lits.result.now l r c.loop-at.invariant.walked some c.lits-lits.ensures.value c.index-lits-at.is in
    let f : has_number c.loop-at.seen.members l.var ≡ true = ap (has_number c.loop-at.seen.members) (sym c.var.ensures.value) ∙ sym c.contains.ensures ∙ c.if-contains.true in
    let w : Resolves slots t d (c.loop-at.at - 1) c.loop-at.seen.members c.loop-at.resolved.members c.loop-at.left l a = walk_reason slots t d (c.loop-at.at - 1) c.loop-at.seen.members c.loop-at.resolved.members c.loop-at.left l r a f c.if-left-eq1.false in
    let q : reason_in (entries (levels_of t)) l.var ≡ Some c.in-Some.reason = ap (reason_in (entries (levels_of t))) (sym c.var-then-contains.ensures.value) ∙ sym c.reason_of.ensures ∙ c.in-Some.is in
    let s : w.why.id ≡ c.in-Some.reason = some_id (sym w.reason ∙ q) in
    subst (λ (z : ClauseId). (k : Literal) → In (clause_of slots z.0) k → IsMarkable (lits_of t) c.loop-at.seen.members k) s w.markable

pub overflow_add-left : goal.overflow_add-left
overflow_add-left g c =
    let slots = g.C.Clauses.clauses c.args.clauses.now in
    let t = c.args.trail.now in
    let d = clause_of slots c.args.conflict.0 in
    let r : Ready slots t = ready slots t c.lits-lits.ensures.sound c.requires.level c.requires.fits in
    let l = c.index-lits-at.result in
    let some : 0 < c.loop-at.at = search rules in
    let a : Ahead slots t d (c.loop-at.at - 1) c.loop-at.seen.members c.loop-at.resolved.members c.loop-at.left l =
    ahead_at slots t d c.loop-at.at c.loop-at.seen.members c.loop-at.resolved.members c.loop-at.left c.lits-lits.result.now l r c.loop-at.invariant.walked some c.lits-lits.ensures.value c.index-lits-at.is in
    let f : has_number c.loop-at.seen.members l.var ≡ true = ap (has_number c.loop-at.seen.members) (sym c.var.ensures.value) ∙ sym c.contains.ensures ∙ c.if-contains.true in
    let w : Resolves slots t d (c.loop-at.at - 1) c.loop-at.seen.members c.loop-at.resolved.members c.loop-at.left l a = walk_reason slots t d (c.loop-at.at - 1) c.loop-at.seen.members c.loop-at.resolved.members c.loop-at.left l r a f c.if-left-eq1.false in
    let q : reason_in (entries (levels_of t)) l.var ≡ Some c.in-Some.reason = ap (reason_in (entries (levels_of t))) (sym c.var-then-contains.ensures.value) ∙ sym c.reason_of.ensures ∙ c.in-Some.is in
    let n : Walked slots t d (c.loop-at.at - 1) c.mark_all.new.seen.members (adjoined c.loop-at.resolved.members l.var) (c.loop-at.left - 1 + c.mark_all.result) =
    walk_next slots t d (c.loop-at.at - 1) c.loop-at.seen.members c.mark_all.new.seen.members c.loop-at.resolved.members c.loop-at.left c.mark_all.result l c.in-Some.reason r a f w q
    (ap (λ (s : Numbers). s.members) c.mark_all.ensures.seen) c.mark_all.ensures.opens in
    let b : c.loop-at.left - 1 + c.mark_all.result ≤ c.loop-at.at - 1 = walked_below slots t d (c.loop-at.at - 1) c.mark_all.new.seen.members (adjoined c.loop-at.resolved.members l.var) (c.loop-at.left - 1 + c.mark_all.result) n in
    let s = c.lits-lits.ensures.sound in
    omega (arith, b, c.loop-at.auto.at, ap length c.lits-lits.ensures.value, s.fits, s.small)

pub loop-at-preserved-then-contains : goal.loop-at-preserved-then-contains
loop-at-preserved-then-contains g c =
    let slots = g.C.Clauses.clauses c.args.clauses.now in
    let t = c.args.trail.now in
    let d = clause_of slots c.args.conflict.0 in
    let r : Ready slots t = ready slots t c.lits-lits.ensures.sound c.requires.level c.requires.fits in
    let l = c.index-lits-at.result in
    let some : 0 < c.loop-at.at = search rules in
    let a : Ahead slots t d (c.loop-at.at - 1) c.loop-at.seen.members c.loop-at.resolved.members c.loop-at.left l =
    ahead_at slots t d c.loop-at.at c.loop-at.seen.members c.loop-at.resolved.members c.loop-at.left c.lits-lits.result.now l r c.loop-at.invariant.walked some c.lits-lits.ensures.value c.index-lits-at.is in
    let f : has_number c.loop-at.seen.members l.var ≡ true = ap (has_number c.loop-at.seen.members) (sym c.var.ensures.value) ∙ sym c.contains.ensures ∙ c.if-contains.true in
    let w : Resolves slots t d (c.loop-at.at - 1) c.loop-at.seen.members c.loop-at.resolved.members c.loop-at.left l a = walk_reason slots t d (c.loop-at.at - 1) c.loop-at.seen.members c.loop-at.resolved.members c.loop-at.left l r a f c.if-left-eq1.false in
    let q : reason_in (entries (levels_of t)) l.var ≡ Some c.in-Some.reason = ap (reason_in (entries (levels_of t))) (sym c.var-then-contains.ensures.value) ∙ sym c.reason_of.ensures ∙ c.in-Some.is in
    let n : Walked slots t d (c.loop-at.at - 1) c.mark_all.new.seen.members (adjoined c.loop-at.resolved.members l.var) (c.loop-at.left - 1 + c.mark_all.result) =
    walk_next slots t d (c.loop-at.at - 1) c.loop-at.seen.members c.mark_all.new.seen.members c.loop-at.resolved.members c.loop-at.left c.mark_all.result l c.in-Some.reason r a f w q
    (ap (λ (s : Numbers). s.members) c.mark_all.ensures.seen) c.mark_all.ensures.opens in
    let h : c.loop-at.at - 1 < length c.lits-lits.result.now = omega (arith, some, c.loop-at.auto.at) in
    let on : In (lits_of t) l = subst (λ (z : Clause). In z l) c.lits-lits.ensures.value (in_place c.lits-lits.result.now (c.loop-at.at - 1) l h c.index-lits-at.is) in
    let more : adjoined c.loop-at.resolved.members l.var ≡ c.insert.new.self.members =
    ap (adjoined c.loop-at.resolved.members) (sym c.var-then-contains-2.ensures.value) ∙ sym (ap (λ (z : Numbers). z.members) c.insert.ensures) in
    record {
      walked = subst (λ (z : List ℕ). Walked slots t d (c.loop-at.at - 1) c.mark_all.new.seen.members z (c.loop-at.left - 1 + c.mark_all.result)) more n;
      gathers = c.mark_all.ensures.gathers;
      range = λ x k. elim (joined_from c.loop-at.resolved.members l.var x (sym (ap (λ (z : Numbers). has_number z.members x) c.insert.ensures ∙ ap (λ (v : ℕ). has_number (adjoined c.loop-at.resolved.members v) x) c.var-then-contains-2.ensures.value) ∙ k)) [
        | inl e ↦ c.loop-at.invariant.range x e
        | inr e ↦ subst (λ (z : ℕ). (1 ≤ z) × (z ≤ t.variables)) (sym e) (c.lits-lits.ensures.sound.within l on)
      ];
      seen = ap (λ (s : Numbers). s.room) c.mark_all.ensures.seen ∙ c.loop-at.invariant.seen;
      resolved = ap (λ (s : Numbers). s.room) c.insert.ensures ∙ c.loop-at.invariant.resolved;
      memory = c.mark_all.ensures.memory;
    }

pub loop-at-preserved : goal.loop-at-preserved
loop-at-preserved g c =
    let slots = g.C.Clauses.clauses c.args.clauses.now in
    let t = c.args.trail.now in
    let d = clause_of slots c.args.conflict.0 in
    let r : Ready slots t = ready slots t c.lits-lits.ensures.sound c.requires.level c.requires.fits in
    let l = c.index-lits-at.result in
    let some : 0 < c.loop-at.at = search rules in
    let a : Ahead slots t d (c.loop-at.at - 1) c.loop-at.seen.members c.loop-at.resolved.members c.loop-at.left l =
    ahead_at slots t d c.loop-at.at c.loop-at.seen.members c.loop-at.resolved.members c.loop-at.left c.lits-lits.result.now l r c.loop-at.invariant.walked some c.lits-lits.ensures.value c.index-lits-at.is in
    let f : has_number c.loop-at.seen.members l.var ≡ false = ap (has_number c.loop-at.seen.members) (sym c.var.ensures.value) ∙ sym c.contains.ensures ∙ c.if-contains.false in
    record {
      walked = walk_skip slots t d (c.loop-at.at - 1) c.loop-at.seen.members c.loop-at.resolved.members c.loop-at.left l a f;
      gathers = c.loop-at.invariant.gathers;
      range = c.loop-at.invariant.range;
      seen = c.loop-at.invariant.seen;
      resolved = c.loop-at.invariant.resolved;
      memory = c.loop-at.invariant.memory;
    }
