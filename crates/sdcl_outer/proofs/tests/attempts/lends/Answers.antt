use Rattle.std.proofs.Common.{◌≡◌, ◌<◌, ap, arith, length, subst, sym}
use Rattle.sdcl_store.specs.Slots.{Slots}
use Rattle.sdcl_trail.specs.Levels.{Levels}
use Rattle.sdcl_prop.specs.Seeing.{CompleteOver, HoldsClosure}
use Rattle.sdcl_prop.proofs.Completing.{complete_holds}
use Rattle.sdcl_outer.proofs.Courses.{some_decided}
use Rattle.sdcl_outer.proofs.tests.attempts.lends.Goals as goal

holds : (slots : Slots) (t : Levels) → CompleteOver slots t → 0 < length t.starts → HoldsClosure slots t
holds slots t h some = complete_holds slots t h (λ e. absurd (omega (arith, some_decided slots t h.fits, ap length e, some)))

pub positive-requires-clause-closure : goal.positive-requires-clause-closure
positive-requires-clause-closure c = holds c.args.search.now.clauses.slots c.args.search.now.trail c.requires.complete c.requires.decided

pub members-requires-clause-closure : goal.members-requires-clause-closure
members-requires-clause-closure c = holds c.args.search.now.clauses.slots c.args.search.now.trail c.requires.complete c.requires.decided

pub filtered-requires-clause-closure : goal.filtered-requires-clause-closure
filtered-requires-clause-closure c =
    let s = c.args.search.now in
    subst (λ (t : Levels). HoldsClosure s.clauses.slots t) (sym c.members.ensures.trail) (holds s.clauses.slots s.trail c.requires.complete c.requires.decided)
