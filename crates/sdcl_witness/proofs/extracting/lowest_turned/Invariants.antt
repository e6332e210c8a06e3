use Rattle.std.proofs.Common.{◌≡◌, []}
use Rattle.sdcl_base.specs.Values.{truth_of}
use Rattle.sdcl_witness.specs.Witnesses.{turned}
use Rattle.sdcl_witness.proofs.Levelled.{below}
use Rattle.sdcl_witness.proofs.extracting.lowest_turned.Given as goal

abbrev pub invariant-loop-level : goal.invariant-loop-level
invariant-loop-level l = turned (truth_of l.model) (below l.trail l.level) ≡ []
