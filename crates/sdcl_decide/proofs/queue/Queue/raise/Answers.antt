use Rattle.std.proofs.Common.{ap, ◌∙◌, arith, set, subst, List, Bool, ℕ}
use Rattle.sdcl_decide.specs.Heap.{SameBehind}
use Rattle.sdcl_decide.specs.Queue.{Ranking, passed_of}
use Rattle.sdcl_decide.proofs.Passing.{written_back, passed_same}
use Rattle.sdcl_decide.proofs.queue.Queue.raise.Goals as goal

pub returns-then-at-self : goal.returns-then-at-self
returns-then-at-self c =
    let s = c.self.inside in
    let made : List Bool → Ranking = λ p. record {
      variables = s.variables;
      scores = set s.scores.items c.args.var c.args.score;
      passed = p;
    } in
    let same : SameBehind s.last s.places.items c.rise.new.places =
    subst (λ (p : List ℕ). SameBehind s.last p c.rise.new.places)
    c.deref_mut-then-at-self.ensures.value c.rise.ensures.same in
    rw (← c.self.view_is)
    (ap (λ p. made (passed_of s.last p))
    (written_back s.places.items c.rise.new.places s.places.len (omega arith))
    ∙ ap made (passed_same s.last s.places.items c.rise.new.places (omega arith) same))
