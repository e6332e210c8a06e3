use Rattle.std.proofs.Common.{◌≡◌}
use Rattle.std.specs.List.{filter}
use Rattle.sdcl_convert.specs.Conversion.{shaken, unshaken}
use Rattle.sdcl_convert.proofs.writing.put_shaken_last.Given as goal

abbrev pub invariant-loop-clause : goal.invariant-loop-clause
invariant-loop-clause l = record {
  first : l.clauses.items ≡ unshaken l.yielded l.witness;
  last : l.last.items ≡ filter (shaken l.witness) l.yielded;
}
