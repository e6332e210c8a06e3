use Rattle.std.proofs.Common.{◌≡◌, ◌∙◌, refl, Err, rules, decimal}
use Rattle.sdcl_proof.proofs.Sequel.{writes_then, writes_fails, writes_same}
use Rattle.sdcl_journal.proofs.writing.write_numbered.Goals as goal

pub returns-in_err-write_all-2-clause-writes : goal.returns-in_err-write_all-2-clause-writes
returns-in_err-write_all-2-clause-writes g c =
    let failed : c.from_residual-in_err-write_all-2.result ≡ Err c.in_err-write_all-2.field-0.0 = search rules in
    let shown : c.format.result.now ≡ decimal c.args.number = search rules in
    let text : c.as_bytes.result.now ≡ decimal c.args.number = c.as_bytes.ensures.value ∙ shown in
    writes_then _ _ _ _ _ _ _ _ _ _ c.in_ok-write_all.was refl c.write_all.ensures.writes
    (writes_fails _ _ _ _ _ _ _ _ _ c.in_err-write_all-2.was failed refl (writes_same _ _ _ _ _ _ text c.write_all-2.ensures.writes))

pub returns-clause-writes : goal.returns-clause-writes
returns-clause-writes g c =
    let shown : c.format.result.now ≡ decimal c.args.number = search rules in
    let text : c.as_bytes.result.now ≡ decimal c.args.number = c.as_bytes.ensures.value ∙ shown in
    writes_then _ _ _ _ _ _ _ _ _ _ c.in_ok-write_all.was refl c.write_all.ensures.writes
    (writes_then _ _ _ _ _ _ _ _ _ _ c.in_ok-write_all-2.was refl (writes_same _ _ _ _ _ _ text c.write_all-2.ensures.writes) c.write_all-3.ensures.writes)
