use Rattle.std.proofs.Common.{◌≡◌, subst, sym, rules, true}
use Rattle.sdcl_store.specs.Slots.{is_alive}
use Rattle.sdcl_rup.specs.Held.{Within}
use Rattle.sdcl_prcheck.proofs.Copied.{clause_covered, copies_added}
use Rattle.sdcl_prcheck.proofs.copying.copy.Goals as goal

pub add-requires : goal.add-requires
add-requires c =
    let alive : is_alive c.args.formula.now.slots c.args.id.0 ≡ true = search rules in
    subst (Within c.args.database.now.covered) (sym c.literals.ensures.value) (clause_covered c.args.database.now.covered c.args.formula.now.slots c.args.id.0 c.requires.within alive)

pub returns-then-alive : goal.returns-then-alive
returns-then-alive c =
    let alive : is_alive c.args.formula.now.slots c.args.id.0 ≡ true = search rules in
    copies_added c.add.result c.args.formula.now.slots c.args.database.now c.add.new.self c.args.id.0 c.literals.result.now alive c.literals.ensures.value c.literals.ensures.distinct c.add.ensures.ok
