use Rattle.std.proofs.Common.{◌≡◌, ◌≤◌, take}
use Rattle.sdcl_store.specs.Slots.{live}
use Rattle.sdcl_prcheck.proofs.copying.database_of.Given as goal

abbrev pub invariant-loop-id : goal.invariant-loop-id
invariant-loop-id l = record {
  copied : l.database.clauses ≡ live (take l.id l.formula.slots);
  covered : l.fn.variables ≤ l.database.covered;
}
