use Rattle.std.proofs.Common.{ap, arith, length}
use Rattle.sdcl_prop.proofs.Completing.{complete_holds}
use Rattle.sdcl_outer.proofs.Courses.{some_decided}
use Rattle.sdcl_outer.proofs.tests.attempts.attempt_here.Goals as goal

pub attempt-requires-clause-closure : goal.attempt-requires-clause-closure
attempt-requires-clause-closure c =
    let s = c.args.search.now in
    complete_holds s.clauses.slots s.trail c.requires.complete (λ e. absurd (omega (arith, some_decided s.clauses.slots s.trail c.requires.complete.fits, ap length e, c.requires.decided)))
