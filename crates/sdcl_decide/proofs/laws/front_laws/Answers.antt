use Rattle.sdcl_decide.proofs.Front.{front_starts, front_bumps, front_decides}
use Rattle.sdcl_decide.proofs.laws.front_laws.Goals as goal

pub returns : goal.returns
returns c = record { starts = front_starts; bumps = front_bumps; decides = front_decides }
