use Rattle.std.proofs.Common.{◌≡◌, ◌≤◌, ◌+◌, length, None}
use Rattle.sdcl_io.specs.Step.{All, apply_all}
use Rattle.sdcl_store.specs.Stores.{clauses_in}
use Rattle.sdcl_convert.specs.Checked.{witnesses}
use Rattle.sdcl_convert.specs.Laws.{AllBelow}
use Rattle.sdcl_io.specs.Telling.{IsTold}
use Rattle.sdcl_convert.proofs.Turning.{before, done}
use Rattle.sdcl_convert.proofs.converting.convert_steps.Given as goal

abbrev pub invariant-loop-step : goal.invariant-loop-step
invariant-loop-step g l = record {
  ready : g.P.ProofOut.ready l.out;
  follows : g.P.ProofOut.follows l.fn.out l.out;
  later : g.P.ProofOut.faults l.fn.out ≤ g.P.ProofOut.faults l.out;
  aside : g.P.ProofOut.aside l.out ≡ g.P.ProofOut.aside l.fn.out;
  clauses : l.clauses.items ≡ apply_all All (clauses_in l.fn.formula) (done (clauses_in l.fn.formula) l.steps l.fn.greatest l.step-index);
  told : IsTold g.P.ProofOut.tells l.fn.out l.out (done (clauses_in l.fn.formula) l.steps l.fn.greatest l.step-index) None;
  lines : l.lines ≡ length (done (clauses_in l.fn.formula) l.steps l.fn.greatest l.step-index);
  last : l.last ≡ l.fn.greatest + witnesses (before l.steps l.step-index);
  below : AllBelow (l.last + 1) l.clauses.items;
}
