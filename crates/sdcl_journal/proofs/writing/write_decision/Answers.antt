use Rattle.std.proofs.Common.{◌≡◌, ◌∙◌, refl, ap, Err, rules}
use Rattle.std.specs.Fmt.{signed_decimal}
use Rattle.sdcl_proof.specs.Lines.{literal_text}
use Rattle.sdcl_proof.proofs.Sequel.{writes_then, writes_fails, writes_same, number_text}
use Rattle.sdcl_journal.proofs.writing.write_decision.Goals as goal

pub returns-in_err-write_all-clause-writes : goal.returns-in_err-write_all-clause-writes
returns-in_err-write_all-clause-writes g c =
    let failed : c.from_residual.result ≡ Err c.in_err-write_all.field-0.0 = search rules in
    writes_fails _ _ _ _ _ _ _ _ _ c.in_err-write_all.was failed refl c.write_all.ensures.writes

pub returns-in_err-write_all-2-clause-writes : goal.returns-in_err-write_all-2-clause-writes
returns-in_err-write_all-2-clause-writes g c =
    let failed : c.from_residual-in_err-write_all-2.result ≡ Err c.in_err-write_all-2.field-0.0 = search rules in
    let shown : c.format.result.now ≡ signed_decimal c.number.result = search rules in
    let text : c.as_bytes.result.now ≡ literal_text c.args.l = c.as_bytes.ensures.value ∙ shown ∙ ap signed_decimal c.number.ensures.number ∙ number_text c.args.l c.number.ensures.range in
    writes_then _ _ _ _ _ _ _ _ _ _ c.in_ok-write_all.was refl c.write_all.ensures.writes
    (writes_fails _ _ _ _ _ _ _ _ _ c.in_err-write_all-2.was failed refl (writes_same _ _ _ _ _ _ text c.write_all-2.ensures.writes))

pub returns-clause-writes : goal.returns-clause-writes
returns-clause-writes g c =
    let shown : c.format.result.now ≡ signed_decimal c.number.result = search rules in
    let text : c.as_bytes.result.now ≡ literal_text c.args.l = c.as_bytes.ensures.value ∙ shown ∙ ap signed_decimal c.number.ensures.number ∙ number_text c.args.l c.number.ensures.range in
    writes_then _ _ _ _ _ _ _ _ _ _ c.in_ok-write_all.was refl c.write_all.ensures.writes
    (writes_then _ _ _ _ _ _ _ _ _ _ c.in_ok-write_all-2.was refl (writes_same _ _ _ _ _ _ text c.write_all-2.ensures.writes) c.write_all-3.ensures.writes)
