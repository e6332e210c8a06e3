use Rattle.sdcl_decide.proofs.Looking.{IsBestBelow}
use Rattle.sdcl_decide.proofs.queue.look.Given as goal

abbrev pub invariant-loop-x : goal.invariant-loop-x
invariant-loop-x l = IsBestBelow l.x l.trail.lits l.scores l.best
