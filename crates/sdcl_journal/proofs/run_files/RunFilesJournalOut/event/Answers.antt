use Rattle.std.proofs.Common.{inr, refl, sym, subst}
use Rattle.sdcl_journal.specs.Events.{event_of}
use Rattle.sdcl_io.specs.declared.world.OutRole.TheVariants as output
use Rattle.sdcl_journal.specs.RunOutputs.{IsRunOutput, FailsAt}
use Rattle.sdcl_journal.proofs.Outputs.{line_told, line_torn, steps_stay, written_once, fails_none, fails_now, fault_rose}
use Rattle.sdcl_journal.proofs.run_files.RunFilesJournalOut.event.Goals as goal

pub returns-in-Ok-clause-ok : goal.returns-in-Ok-clause-ok
returns-in-Ok-clause-ok g c = λ before h asked. rw c.in-Ok.is at (line_told _ _ _ _ (event_of c.args.event.now) c.write_event.ensures.writes) before (h asked)

pub returns-in-Err-clause-err : goal.returns-in-Err-clause-err
returns-in-Err-clause-err g c = λ before h asked. rw c.in-Err.is at (line_torn _ _ _ _ (event_of c.args.event.now) c.write_event.ensures.writes) before (h asked)

pub returns-in-Ok-clause-steps : goal.returns-in-Ok-clause-steps
returns-in-Ok-clause-steps g c = λ taken torn h asked. steps_stay (g.W.World.seen c.args.self.now.world.now) (g.W.World.seen c.write_event.new.world) taken torn c.write_event.ensures.writes.only (h asked)

pub returns-in-Err-clause-steps : goal.returns-in-Err-clause-steps
returns-in-Err-clause-steps g c = λ taken torn h asked. steps_stay (g.W.World.seen c.args.self.now.world.now) (g.W.World.seen c.write_event.new.world) taken torn c.write_event.ensures.writes.only (h asked)

pub returns-in-Err-clause-cause : goal.returns-in-Err-clause-cause
returns-in-Err-clause-cause g c = λ e. fault_rose output.Journal c.in-Err.failed c.args.self.now.failed c.fault_at-self.result c.requires.ready.0 c.fault_at-self.ensures cc

pub returns-in-Ok-clause-follows : goal.returns-in-Ok-clause-follows
returns-in-Ok-clause-follows g c = (
  refl,
  refl,
  refl,
  written_once (IsRunOutput c.args.self.now.proof c.args.self.now.journal) output.Journal (g.W.World.seen c.args.self.now.world.now) (g.W.World.seen c.write_event.new.world) (inr (refl, c.if-not-self.false)) c.write_event.ensures.writes.only c.write_event.ensures.writes.file c.write_event.ensures.writes.calm,
  fails_none (IsRunOutput c.args.self.now.proof c.args.self.now.journal) (g.W.World.seen c.args.self.now.world.now) (g.W.World.seen c.write_event.new.world) c.args.self.now.failed c.args.self.now.failed refl,
  c.write_event.ensures.follows,
)

pub returns-in-Err-clause-follows : goal.returns-in-Err-clause-follows
returns-in-Err-clause-follows g c = (
  refl,
  refl,
  refl,
  written_once (IsRunOutput c.args.self.now.proof c.args.self.now.journal) output.Journal (g.W.World.seen c.args.self.now.world.now) (g.W.World.seen c.write_event.new.world) (inr (refl, c.if-not-self.false)) c.write_event.ensures.writes.only c.write_event.ensures.writes.file c.write_event.ensures.writes.calm,
  subst (FailsAt (IsRunOutput c.args.self.now.proof c.args.self.now.journal) (g.W.World.seen c.args.self.now.world.now) (g.W.World.seen c.write_event.new.world) c.args.self.now.failed) (sym c.fault_at-self.ensures)
      (fails_now (IsRunOutput c.args.self.now.proof c.args.self.now.journal) output.Journal (g.W.World.seen c.args.self.now.world.now) (g.W.World.seen c.write_event.new.world) c.write_event.result _ c.in-Err.failed c.args.self.now.failed (inr (refl, c.if-not-self.false)) c.in-Err.is c.write_event.ensures.writes),
  c.write_event.ensures.follows,
)
