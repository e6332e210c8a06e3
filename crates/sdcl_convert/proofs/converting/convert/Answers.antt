use Rattle.std.proofs.Common.{map}
use Rattle.sdcl_proof.specs.Steps.{step_of}
use Rattle.sdcl_store.specs.Stores.{clauses_in}
use Rattle.sdcl_convert.proofs.Ending.{may_convert, converts, first_lines}
use Rattle.sdcl_convert.proofs.converting.convert.Goals as goal

pub convert_steps-requires-clause-steps : goal.convert_steps-requires-clause-steps
convert_steps-requires-clause-steps g c =
    rw c.as_slice.ensures.value (may_convert c.checked.inside.variables (clauses_in c.checked.inside.formula) (map step_of c.checked.inside.steps.items) c.checked.inside.greatest c.checked.invariant.checked c.checked.invariant.greatest_is)

pub returns-clause-ok : goal.returns-clause-ok
returns-clause-ok g c =
    rw (← c.checked.view_is)
    (converts g.P.ProofOut.tells c.args.out.now c.convert_steps.new.out c.checked.inside.variables (clauses_in c.checked.inside.formula) (map step_of c.checked.inside.steps.items) c.checked.inside.greatest c.convert_steps.result c.checked.invariant.checked c.checked.invariant.greatest_is
    (rw c.as_slice.ensures.value at c.convert_steps.ensures.ok))

pub returns-clause-err : goal.returns-clause-err
returns-clause-err g c =
    rw (← c.checked.view_is)
    (first_lines g.P.ProofOut.tells c.args.out.now c.convert_steps.new.out c.checked.inside.variables (clauses_in c.checked.inside.formula) (map step_of c.checked.inside.steps.items) c.checked.inside.greatest c.convert_steps.result c.checked.invariant.greatest_is
    (rw c.as_slice.ensures.value at c.convert_steps.ensures.err))
