use Rattle.std.proofs.Common.{◌≤◌}
use Rattle.sdcl_decide.specs.Queue.{IsQueue, Passes}
use Rattle.sdcl_decide.proofs.queue.pass.Given as goal

abbrev pub invariant-loop-last : goal.invariant-loop-last
invariant-loop-last l = record {
  queue : IsQueue l.trail.variables l.vars l.places l.scores l.last;
  within : l.last ≤ l.fn.last;
  passes : Passes l.trail.lits l.fn.last l.last l.fn.places l.places;
}

abbrev pub decreases-loop-last : goal.decreases-loop-last
decreases-loop-last l = l.last
