use Rattle.std.proofs.Common.{arith, ◌≡◌, ℕ, List, subst, sym}
use Rattle.sdcl_decide.specs.Queue.{IsQueue, Settles, Passes}
use Rattle.sdcl_decide.proofs.Opening.{ranking_of, settles_by}
use Rattle.sdcl_decide.proofs.Passing.{written_back}
use Rattle.sdcl_decide.proofs.queue.Queue.settle.Goals as goal

pub returns : goal.returns
returns c =
    let s = c.self.inside in
    let p = c.pass-self-inside in
    let lits = c.args.trail.now.lits in
    let same : c.args.trail.now.variables ≡ s.variables = rw (← c.self.view_is) at c.requires in
    let queue : IsQueue s.variables p.new.vars p.new.places s.scores.items p.result =
    subst (λ (n : ℕ). IsQueue n p.new.vars p.new.places s.scores.items p.result) same
    (subst (λ (t : List ℕ). IsQueue c.args.trail.now.variables p.new.vars p.new.places t
    p.result)
    c.deref.ensures.value p.ensures.queue) in
    let passes : Passes lits s.last p.result s.places.items p.new.places =
    subst (λ (t : List ℕ). Passes lits s.last p.result t p.new.places)
    c.deref_mut-2.ensures.value p.ensures.passes in
    rw (← c.self.view_is)
    (subst (λ (t : List ℕ). Settles lits
    (ranking_of s.variables s.places.items s.scores.items s.last)
    (ranking_of s.variables t s.scores.items p.result))
    (sym (written_back s.places.items p.new.places s.places.len (omega arith)))
    (settles_by s.variables s.last p.result p.new.vars s.places.items p.new.places
    s.scores.items
    lits (omega arith) queue passes p.ensures.ready))
