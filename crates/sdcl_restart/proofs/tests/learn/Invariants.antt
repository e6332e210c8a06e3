use Rattle.std.proofs.Common.{◌≡◌, ◌+◌}
use Rattle.sdcl_restart.proofs.tests.learn.Given as goal

abbrev pub invariant-loop-n : goal.invariant-loop-n
invariant-loop-n l = record {
  since : l.restart.since ≡ l.initial.restart.since + l.n;
  made : l.restart.made ≡ l.initial.restart.made;
}
