use Rattle.std.proofs.Common.{◌≡◌, refl, Err, rules}
use Rattle.sdcl_proof.proofs.Sequel.{writes_then, writes_fails}
use Rattle.sdcl_journal.proofs.writing.write_clause.Goals as goal

pub returns-in_err-write_literals-clause-writes : goal.returns-in_err-write_literals-clause-writes
returns-in_err-write_literals-clause-writes g c =
    let failed : c.from_residual-in_err-write_literals.result ≡ Err c.in_err-write_literals.field-0.0 = search rules in
    writes_then _ _ _ _ _ _ _ _ _ _ c.in_ok-write_all.was refl c.write_all.ensures.writes
    (writes_fails _ _ _ _ _ _ _ _ _ c.in_err-write_literals.was failed refl c.write_literals.ensures.writes)

pub returns-in_err-write_literals-2-clause-writes : goal.returns-in_err-write_literals-2-clause-writes
returns-in_err-write_literals-2-clause-writes g c =
    let failed : c.from_residual-in_err-write_literals-2.result ≡ Err c.in_err-write_literals-2.field-0.0 = search rules in
    writes_then _ _ _ _ _ _ _ _ _ _ c.in_ok-write_all.was refl c.write_all.ensures.writes
    (writes_then _ _ _ _ _ _ _ _ _ _ c.in_ok-write_literals.was refl c.write_literals.ensures.writes
    (writes_fails _ _ _ _ _ _ _ _ _ c.in_err-write_literals-2.was failed refl c.write_literals-2.ensures.writes))

pub returns-clause-writes : goal.returns-clause-writes
returns-clause-writes g c =
    writes_then _ _ _ _ _ _ _ _ _ _ c.in_ok-write_all.was refl c.write_all.ensures.writes
    (writes_then _ _ _ _ _ _ _ _ _ _ c.in_ok-write_literals.was refl c.write_literals.ensures.writes
    (writes_then _ _ _ _ _ _ _ _ _ _ c.in_ok-write_literals-2.was refl c.write_literals-2.ensures.writes c.write_all-2.ensures.writes))
