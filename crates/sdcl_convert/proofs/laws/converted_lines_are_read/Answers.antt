use Rattle.sdcl_convert.proofs.Formed.{formed_law}
use Rattle.sdcl_convert.proofs.laws.converted_lines_are_read.Goals as goal

pub returns : goal.returns
returns c = formed_law
