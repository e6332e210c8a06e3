use Rattle.std.proofs.Common.{◌≤◌}
use Rattle.sdcl_decide.specs.Heap.{rank_at, AreLinked, MayRise, SameBehind}
use Rattle.sdcl_decide.proofs.heap.rise.Given as goal

abbrev pub invariant-loop-at : goal.invariant-loop-at
invariant-loop-at l = record {
  linked : AreLinked l.vars l.places;
  low : 1 ≤ l.at;
  high : l.at ≤ l.size;
  order : MayRise l.size l.at (rank_at l.scores l.vars);
  same : SameBehind l.size l.fn.places l.places;
}

abbrev pub decreases-loop-at : goal.decreases-loop-at
decreases-loop-at l = l.at
