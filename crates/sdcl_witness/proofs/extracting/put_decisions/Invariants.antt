use Rattle.std.proofs.Common.{◌≡◌, ◌≤◌, vec_capacity}
use Rattle.sdcl_witness.specs.Witnesses.{complements_after}
use Rattle.sdcl_witness.proofs.Levelled.{below}
use Rattle.sdcl_witness.proofs.extracting.put_decisions.Given as goal

abbrev pub invariant-loop-level : goal.invariant-loop-level
invariant-loop-level l = record {
  lits : l.out.items ≡ complements_after l.first (below l.trail l.level);
  room : vec_capacity l.fn.out ≤ vec_capacity l.out;
}
