use Rattle.std.proofs.Common.{◌∙◌, ◌<◌, ◌++◌, ◌∷◌, [], List, length, arith, sym, ap}
use Rattle.sdcl_base.specs.Literal.{Clause}
use Rattle.sdcl_store.specs.Slots.{live, slot_at}
use Rattle.sdcl_prcheck.proofs.Copied.{copied_more}
use Rattle.sdcl_convert.proofs.converting.clauses_of.Goals as goal

pub loop-id-preserved : goal.loop-id-preserved
loop-id-preserved c =
    let below : c.loop-id.id < length c.args.formula.now.slots = omega (arith, c.loop-id-test.true, c.slots-id-end.ensures) in
    c.in_ok-push_live.ensures ∙ ap (λ (f : List Clause). f ++ live (slot_at c.args.formula.now.slots c.loop-id.id ∷ [])) c.loop-id.invariant
    ∙ sym (copied_more c.args.formula.now.slots c.loop-id.id below)
