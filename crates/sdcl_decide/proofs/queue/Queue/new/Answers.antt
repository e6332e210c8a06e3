use Rattle.std.proofs.Common.{rules, ap, refl, ◌∙◌, ◌+◌, ◌≡◌, replicate, List, Bool, ℕ}
use Rattle.sdcl_decide.specs.Queue.{Ranking, passed_of}
use Rattle.sdcl_decide.proofs.Passing.{passed_none}
use Rattle.sdcl_decide.proofs.queue.Queue.new.Goals as goal

pub returns : goal.returns
returns c =
    let made : List ℕ → List Bool → Ranking =
    λ s p. record { variables = c.args.variables; scores = s; passed = p } in
    let zeros : c.in_ok-scores.scores.items ≡ replicate (c.args.variables + 1) 0 = search rules in
    ap (λ s. made s (passed_of c.args.variables c.in_ok-places_in_order.field-0.items)) zeros
    ∙ ap (made (replicate (c.args.variables + 1) 0))
    (passed_none
    (c.args.variables + 1) c.args.variables c.in_ok-places_in_order.field-0.items refl
    c.in_ok-places_in_order.ensures)
