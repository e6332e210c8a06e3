use Rattle.std.proofs.Common.{◌+◌}
use Rattle.sdcl_decide.specs.Heap.{rank_at, AreLinked, IsHeapFrom, SameBehind}
use Rattle.sdcl_decide.proofs.heap.arrange.Given as goal

abbrev pub invariant-loop-start : goal.invariant-loop-start
invariant-loop-start l = record {
  linked : AreLinked l.vars l.places;
  order : IsHeapFrom (l.start + 1) l.size (rank_at l.scores l.vars);
  same : SameBehind l.size l.fn.places l.places;
}

abbrev pub decreases-loop-start : goal.decreases-loop-start
decreases-loop-start l = l.start
