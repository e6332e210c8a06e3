use Rattle.std.proofs.Common.{rules, ◌≡◌, Ok, Err}
use Rattle.sdcl_proof.specs.declared.fault.ProofError.TheVariants.{NoMemory}
use Rattle.sdcl_proof.specs.Stepping.{stepping}
use Rattle.sdcl_prcheck.specs.declared.verdict.Verdict.TheVariants.{Verified}
use Rattle.sdcl_store.specs.Stores.{clauses_in}
use Rattle.sdcl_convert.specs.Loading.{Collects}
use Rattle.sdcl_convert.proofs.Gathering.{loads_nothing, loads_fault, loads_verified}
use Rattle.sdcl_convert.proofs.loading.load.Goals as goal

pub returns-in_err-database-clause-loads : goal.returns-in_err-database-clause-loads
returns-in_err-database-clause-loads g c =
    let failed : c.from_residual.result ≡ Err NoMemory = search rules in
    rw failed (loads_nothing c.args.variables (clauses_in c.args.formula) (stepping {G = g.W.World} c.args.reader.now) c.requires.sound)

pub returns-in-Verified-clause-loads : goal.returns-in-Verified-clause-loads
returns-in-Verified-clause-loads g c =
    let collects : Collects c.in_ok-database.database.clauses c.collect.new.kept.items (stepping {G = g.W.World} c.args.reader.now) (stepping {G = g.W.World} c.collect.new.reader) (Ok Verified) = rw c.in-Verified.is at c.in_ok-collect.ensures.collects in
    let whole : Collects (clauses_in c.args.formula) c.collect.new.kept.items (stepping {G = g.W.World} c.args.reader.now) (stepping {G = g.W.World} c.collect.new.reader) (Ok Verified) = rw c.in_ok-database.ensures at collects in
    loads_verified c.args.variables (clauses_in c.args.formula) c.collect.new.kept.items (stepping {G = g.W.World} c.args.reader.now) (stepping {G = g.W.World} c.collect.new.reader) c.keep.result whole c.keep.ensures.keeps c.keep.ensures.verified

pub returns-in_err-collect-clause-loads : goal.returns-in_err-collect-clause-loads
returns-in_err-collect-clause-loads g c =
    let failed : c.from_residual-in_err-collect.result ≡ Err c.in_err-collect.field-0.0 = search rules in
    let collects : Collects c.in_ok-database.database.clauses c.collect.new.kept.items (stepping {G = g.W.World} c.args.reader.now) (stepping {G = g.W.World} c.collect.new.reader) (Err c.in_err-collect.field-0.0) = c.in_err-collect.ensures.collects in
    let whole : Collects (clauses_in c.args.formula) c.collect.new.kept.items (stepping {G = g.W.World} c.args.reader.now) (stepping {G = g.W.World} c.collect.new.reader) (Err c.in_err-collect.field-0.0) = rw c.in_ok-database.ensures at collects in
    rw failed (loads_fault c.args.variables (clauses_in c.args.formula) c.collect.new.kept.items (stepping {G = g.W.World} c.args.reader.now) (stepping {G = g.W.World} c.collect.new.reader) c.in_err-collect.field-0.0 whole)
