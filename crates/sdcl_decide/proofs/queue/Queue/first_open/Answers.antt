use Rattle.std.proofs.Common.{arith, ◌∙◌, ◌≡◌, ap, false, get_or, subst, ℕ, sym}
use Rattle.std.proofs.lemmas.List.{get_or_read}
use Rattle.sdcl_decide.specs.Queue.{IsFirstOpen, is_given}
use Rattle.sdcl_decide.proofs.Opening.{ranking_of, top_is_first}
use Rattle.sdcl_decide.proofs.queue.Queue.first_open.Goals as goal

pub returns-then-not-is_assigned-clause-first : goal.returns-then-not-is_assigned-clause-first
returns-then-not-is_assigned-clause-first c =
    let s = c.self.inside in
    let lits = c.args.trail.now.lits in
    let read : c.index-top.result.now ≡ get_or s.vars.items 1 0 =
    get_or_read s.vars.items 1 _ (omega arith) c.index-top.ensures 0 in
    let free : is_given lits (get_or s.vars.items 1 0) ≡ false =
    ap (is_given lits) (sym read) ∙ sym c.is_assigned.ensures ∙ c.if-not-is_assigned.true in
    rw (← c.self.view_is)
    (λ step. subst
    (λ (x : ℕ). IsFirstOpen
    (ranking_of s.variables s.places.items s.scores.items s.last) lits x) (sym read)
    (top_is_first s.variables s.last s.vars.items s.places.items s.scores.items lits
    c.self.invariant (omega arith) free step))
