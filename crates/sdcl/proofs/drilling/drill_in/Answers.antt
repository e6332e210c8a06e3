use Rattle.sdcl.proofs.Drills.{done}
use Rattle.sdcl.proofs.drilling.drill_in.Goals as goal

pub returns : goal.returns
returns c = done c.requires.holes c.in_ok-counts.ensures.ok c.in_ok-check_converted.ensures.ok
