use Rattle.sdcl_decide.specs.Queue.{AreAtOwnPlaces}
use Rattle.sdcl_decide.proofs.queue.variables_in_order.Given as goal

abbrev pub invariant-loop-x : goal.invariant-loop-x
invariant-loop-x l = AreAtOwnPlaces l.x l.vars.items
