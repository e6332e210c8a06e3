use Rattle.std.proofs.Common.{◌∙◌, ◌≤◌, ◌<◌, ◌++◌, ◌∷◌, [], List, length, arith, sym, subst, ap}
use Rattle.sdcl_base.specs.Literal.{Clause}
use Rattle.sdcl_store.specs.Slots.{live, slot_at}
use Rattle.sdcl_store.specs.Stores.{clauses_in}
use Rattle.sdcl_prcheck.proofs.Copied.{within_more, copied_more}
use Rattle.sdcl_prcheck.proofs.copying.database_of.Goals as goal

pub copy-requires-clause-within : goal.copy-requires-clause-within
copy-requires-clause-within c =
    within_more c.args.variables c.loop-id.database.covered (clauses_in c.args.formula.now) c.requires.within c.loop-id.invariant.covered

pub loop-id-preserved : goal.loop-id-preserved
loop-id-preserved c =
    let below : c.loop-id.id < length c.args.formula.now.slots = omega (arith, c.loop-id-test.true, c.slots-id-end.ensures) in
    record {
      copied = c.in_ok-copy.ensures.clauses ∙ ap (λ (f : List Clause). f ++ live (slot_at c.args.formula.now.slots c.loop-id.id ∷ [])) c.loop-id.invariant.copied
          ∙ sym (copied_more c.args.formula.now.slots c.loop-id.id below);
      covered = subst (λ n. c.args.variables ≤ n) (sym c.in_ok-copy.ensures.covered) c.loop-id.invariant.covered;
    }
