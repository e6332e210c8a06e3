use Rattle.std.proofs.Common.{◌≡◌, ◌+◌}
use Rattle.sdcl_restart.proofs.tests.learn_for_reductions.Given as goal

abbrev pub invariant-loop-n : goal.invariant-loop-n
invariant-loop-n l = record {
  since : l.reductions.since ≡ l.initial.reductions.since + l.n;
  made : l.reductions.made ≡ l.initial.reductions.made;
}
