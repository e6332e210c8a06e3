use Rattle.std.proofs.Common.{ap, ◌∙◌, ◌++◌, arith, take, drop, length, subst, List, Bool, ℕ}
use Rattle.sdcl_decide.specs.Heap.{SameBehind}
use Rattle.sdcl_decide.specs.Queue.{Ranking, passed_of, divided}
use Rattle.sdcl_decide.proofs.Passing.{written_back, passed_same}
use Rattle.sdcl_decide.proofs.queue.Queue.divide.Goals as goal

pub returns : goal.returns
returns c =
    let s = c.self.inside in
    let made : List ℕ → List Bool → Ranking =
    λ t p. record { variables = s.variables; scores = t; passed = p } in
    let same : SameBehind s.last s.places.items c.arrange.new.places =
    subst (λ (p : List ℕ). SameBehind s.last p c.arrange.new.places) c.deref_mut-3.ensures.value
    c.arrange.ensures.same in
    rw (← c.self.view_is)
    (ap (λ t. made t
    (passed_of s.last
    (take s.places.len
    (c.arrange.new.places ++ drop (length c.arrange.new.places) s.places.items))))
    (written_back s.scores.items c.divide_all.new.scores s.scores.len (omega arith)
    ∙ c.divide_all.ensures ∙ ap divided c.deref_mut.ensures.value)
    ∙ ap (λ p. made (divided s.scores.items) (passed_of s.last p))
    (written_back s.places.items c.arrange.new.places s.places.len (omega arith))
    ∙ ap (made (divided s.scores.items))
    (passed_same s.last s.places.items c.arrange.new.places (omega arith) same))
