use Rattle.std.proofs.Common.{◌-◌, ◌≤◌}
use Rattle.sdcl_decide.specs.Heap.{rank_at, AreLinked, MaySink, SameBehind}
use Rattle.sdcl_decide.proofs.heap.sink.Given as goal

abbrev pub invariant-loop-at : goal.invariant-loop-at
invariant-loop-at l = record {
  linked : AreLinked l.vars l.places;
  low : 1 ≤ l.at;
  order : MaySink l.start l.size l.at (rank_at l.scores l.vars);
  same : SameBehind l.size l.fn.places l.places;
}

abbrev pub decreases-loop-at : goal.decreases-loop-at
decreases-loop-at l = l.size - l.at
