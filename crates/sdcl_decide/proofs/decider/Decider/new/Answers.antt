use Rattle.std.proofs.Common.{rules, ap, ◌∙◌, ◌≡◌, ◌+◌, length, replicate, true, ℕ}
use Rattle.std.proofs.lemmas.List.{length-replicate}
use Rattle.sdcl_decide.specs.Queue.{unranked}
use Rattle.sdcl_decide.proofs.Scores.{bounded_first}
use Rattle.sdcl_decide.proofs.decider.Decider.new.Goals as goal

pub invariant_of-result : goal.invariant_of-result
invariant_of-result c =
    let n = c.args.variables in
    let queue : c.in_ok-queue.queue ≡ unranked n = c.in_ok-queue.ensures in
    let signs : c.in_ok-signs.signs.items ≡ replicate (n + 1) true = search rules in
    let signed : length c.in_ok-signs.signs.items ≡ n + 1 =
    ap length signs ∙ length-replicate (n + 1) true in
    rw (queue, c.step_at_start.ensures) (record {
      small = c.requires;
      signed = signed;
      scored = length-replicate {A = ℕ} (n + 1) 0;
      bounded = bounded_first c.args.kind (n + 1);
    })
