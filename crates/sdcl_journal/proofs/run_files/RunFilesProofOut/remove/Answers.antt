use Rattle.std.proofs.Common.{inl, refl, sym, subst}
use Rattle.sdcl_io.specs.Step.{Delete}
use Rattle.sdcl_proof.proofs.Sequel.{line_told, line_torn}
use Rattle.sdcl_io.specs.declared.world.OutRole.TheVariants as output
use Rattle.sdcl_journal.specs.RunOutputs.{IsRunOutput, FailsAt}
use Rattle.sdcl_journal.proofs.Outputs.{aside_stays, written_once, fails_none, fails_now, fault_rose}
use Rattle.sdcl_journal.proofs.run_files.RunFilesProofOut.remove.Goals as goal

pub returns-in-Ok-clause-ok : goal.returns-in-Ok-clause-ok
returns-in-Ok-clause-ok g c = λ before h asked. rw c.in-Ok.is at (line_told _ _ _ _ (Delete c.args.clause.now) c.write_remove.ensures.writes) before (h asked)

pub returns-in-Err-clause-err : goal.returns-in-Err-clause-err
returns-in-Err-clause-err g c = λ before h asked. rw c.in-Err.is at (line_torn _ _ _ _ (Delete c.args.clause.now) c.write_remove.ensures.writes) before (h asked)

pub returns-in-Ok-clause-aside : goal.returns-in-Ok-clause-aside
returns-in-Ok-clause-aside g c = aside_stays c.args.self.now.journal (g.W.World.seen c.args.self.now.world.now) (g.W.World.seen c.write_remove.new.world) c.write_remove.ensures.writes.only

pub returns-in-Err-clause-aside : goal.returns-in-Err-clause-aside
returns-in-Err-clause-aside g c = aside_stays c.args.self.now.journal (g.W.World.seen c.args.self.now.world.now) (g.W.World.seen c.write_remove.new.world) c.write_remove.ensures.writes.only

pub returns-in-Err-clause-cause : goal.returns-in-Err-clause-cause
returns-in-Err-clause-cause g c = λ e. fault_rose output.Proof c.in-Err.failed c.args.self.now.failed c.fault_at-self.result c.requires.ready.0 c.fault_at-self.ensures cc

pub returns-in-Ok-clause-follows : goal.returns-in-Ok-clause-follows
returns-in-Ok-clause-follows g c = (
  refl,
  refl,
  refl,
  written_once (IsRunOutput c.args.self.now.proof c.args.self.now.journal) output.Proof (g.W.World.seen c.args.self.now.world.now) (g.W.World.seen c.write_remove.new.world) (inl (refl, c.if-not-self.false)) c.write_remove.ensures.writes.only c.write_remove.ensures.writes.file c.write_remove.ensures.writes.calm,
  fails_none (IsRunOutput c.args.self.now.proof c.args.self.now.journal) (g.W.World.seen c.args.self.now.world.now) (g.W.World.seen c.write_remove.new.world) c.args.self.now.failed c.args.self.now.failed refl,
  c.write_remove.ensures.follows,
)

pub returns-in-Err-clause-follows : goal.returns-in-Err-clause-follows
returns-in-Err-clause-follows g c = (
  refl,
  refl,
  refl,
  written_once (IsRunOutput c.args.self.now.proof c.args.self.now.journal) output.Proof (g.W.World.seen c.args.self.now.world.now) (g.W.World.seen c.write_remove.new.world) (inl (refl, c.if-not-self.false)) c.write_remove.ensures.writes.only c.write_remove.ensures.writes.file c.write_remove.ensures.writes.calm,
  subst (FailsAt (IsRunOutput c.args.self.now.proof c.args.self.now.journal) (g.W.World.seen c.args.self.now.world.now) (g.W.World.seen c.write_remove.new.world) c.args.self.now.failed) (sym c.fault_at-self.ensures)
      (fails_now (IsRunOutput c.args.self.now.proof c.args.self.now.journal) output.Proof (g.W.World.seen c.args.self.now.world.now) (g.W.World.seen c.write_remove.new.world) c.write_remove.result _ c.in-Err.failed c.args.self.now.failed (inl (refl, c.if-not-self.false)) c.in-Err.is c.write_remove.ensures.writes),
  c.write_remove.ensures.follows,
)
