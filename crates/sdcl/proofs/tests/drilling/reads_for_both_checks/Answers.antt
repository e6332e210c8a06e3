use Rattle.std.proofs.Common.{sym, subst}
use Rattle.sdcl.specs.Drilling.{IsBench}
use Rattle.sdcl.proofs.tests.drilling.reads_for_both_checks.Goals as goal

pub drill_in-requires-clause-bench : goal.drill_in-requires-clause-bench
drill_in-requires-clause-bench c = subst (IsBench 2) (sym c.cut_reads.ensures.seen) c.in-Ok.ensures.ok
