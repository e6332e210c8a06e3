use Rattle.sdcl_decide.specs.Queue.{AreAtOwnPlaces}
use Rattle.sdcl_decide.proofs.queue.places_in_order.Given as goal

abbrev pub invariant-loop-x : goal.invariant-loop-x
invariant-loop-x l = AreAtOwnPlaces l.x l.places.items
