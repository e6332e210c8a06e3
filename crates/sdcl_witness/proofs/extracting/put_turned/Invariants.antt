use Rattle.std.proofs.Common.{◌≡◌, ◌≤◌, take, vec_capacity}
use Rattle.sdcl_base.specs.Values.{truth_of}
use Rattle.sdcl_witness.specs.Witnesses.{turned, complements_after}
use Rattle.sdcl_witness.proofs.extracting.put_turned.Given as goal

abbrev pub invariant-loop-l : goal.invariant-loop-l
invariant-loop-l l = record {
  lits : l.out.items ≡ complements_after l.first (turned (truth_of l.model) (take l.l-index l.trail.lits));
  room : vec_capacity l.fn.out ≤ vec_capacity l.out;
}
