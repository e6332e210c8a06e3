use Rattle.std.proofs.Common.{◌≡◌, ◌≤◌, take, None}
use Rattle.sdcl_convert.specs.Lines.{lines_in}
use Rattle.sdcl_io.specs.Telling.{IsTold}
use Rattle.sdcl_convert.proofs.writing.write_lines.Given as goal

abbrev pub invariant-loop-line : goal.invariant-loop-line
invariant-loop-line g l = record {
  ready : g.P.ProofOut.ready l.out;
  follows : g.P.ProofOut.follows l.fn.out l.out;
  later : g.P.ProofOut.faults l.fn.out ≤ g.P.ProofOut.faults l.out;
  aside : g.P.ProofOut.aside l.out ≡ g.P.ProofOut.aside l.fn.out;
  told : IsTold g.P.ProofOut.tells l.fn.out l.out (lines_in (take l.line-index l.lines)) None;
}
