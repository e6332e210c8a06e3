use Rattle.std.proofs.Common.{◌∙◌, [], append-nil, sym, ap}
use Rattle.sdcl_io.specs.Step.{All, apply_all}
use Rattle.sdcl_proof.specs.Steps.{step_of}
use Rattle.sdcl_convert.specs.Begun.{AreFirstOf}
use Rattle.sdcl_convert.specs.Lines.{lines_in}
use Rattle.sdcl_convert.proofs.Leaving.{step_leaves}
use Rattle.sdcl_convert.proofs.Told.{on_err, first_done}
use Rattle.sdcl_convert.proofs.writing.write_step.Goals as goal

pub returns-clause-applied : goal.returns-clause-applied
returns-clause-applied g c =
    c.in_ok-change.ensures ∙ sym (step_leaves c.args.clauses.now.items c.args.x (step_of c.args.step.now) c.requires.below)
    ∙ ap (apply_all All c.args.clauses.now.items) (sym c.requires.lines)

pub returns-in_err-change-clause-torn : goal.returns-in_err-change-clause-torn
returns-in_err-change-clause-torn g c =
    on_err c.from_residual-in_err-change.result (AreFirstOf g.P.ProofOut.tells c.args.out.now c.write_lines.new.out (lines_in c.args.lines.now))
    (first_done g.P.ProofOut.tells c.args.out.now c.write_lines.new.out (lines_in c.args.lines.now) (lines_in c.args.lines.now) [] (sym (append-nil (lines_in c.args.lines.now))) c.in_ok-write_lines.ensures.told)
