use Rattle.sdcl_decide.proofs.InStep.{in_step_starts, in_step_settles, in_step_puts_back, in_step_turns}
use Rattle.sdcl_decide.proofs.laws.in_step_laws.Goals as goal

pub returns : goal.returns
returns c = record {
  starts = in_step_starts;
  settles = in_step_settles;
  puts_back = in_step_puts_back;
  turns = in_step_turns;
}
