use Rattle.std.proofs.Common.{◌≡◌, take}
use Rattle.sdcl_store.specs.Slots.{live}
use Rattle.sdcl_convert.proofs.converting.clauses_of.Given as goal

abbrev pub invariant-loop-id : goal.invariant-loop-id
invariant-loop-id l = l.clauses.items ≡ live (take l.id l.formula.slots)
