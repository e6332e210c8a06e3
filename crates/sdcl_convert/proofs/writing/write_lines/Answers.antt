use Rattle.std.proofs.Common.{◌∷◌, [], take, drop, suc, None, rules, refl, arith, sym}
use Rattle.sdcl_convert.specs.Lines.{lines_in, line_step}
use Rattle.sdcl_convert.specs.Begun.{AreFirstOf}
use Rattle.sdcl_convert.proofs.Told.{on_err, lines_more, lines_around, told_none, told_on, told_as, torn_at}
use Rattle.sdcl_convert.proofs.writing.write_lines.Goals as goal

pub loop-line-init : goal.loop-line-init
loop-line-init g c = record {
  ready = c.requires.ready;
  follows = search (rules, g.P.laws);
  later = omega arith;
  aside = refl;
  told = told_none g.P.ProofOut.tells c.args.out.now;
}

pub loop-line-preserved : goal.loop-line-preserved
loop-line-preserved g c = record {
  ready = search rules;
  follows = g.met.P.ProofOut.follows_on c.args.out.now c.loop-line.out c.write_line.new.out c.loop-line.invariant.follows c.write_line.ensures.follows;
  later = search rules;
  aside = search rules;
  told =
      told_as g.P.ProofOut.tells c.args.out.now c.write_line.new.out _ _ (sym (lines_more c.args.lines.now c.loop-line.line-index c.line-item.result c.loop-line-test.true c.line-item.is))
      (told_on g.P.ProofOut.tells c.args.out.now c.loop-line.out c.write_line.new.out (lines_in (take c.loop-line.line-index c.args.lines.now)) (line_step c.line-item.result ∷ []) None c.loop-line.invariant.told
      c.in_ok-write_line.ensures.told);
}

pub returns-in_err-write_line-clause-torn : goal.returns-in_err-write_line-clause-torn
returns-in_err-write_line-clause-torn g c =
    on_err c.from_residual.result (AreFirstOf g.P.ProofOut.tells c.args.out.now c.write_line.new.out (lines_in c.args.lines.now))
    (torn_at g.P.ProofOut.tells c.args.out.now c.loop-line.out c.write_line.new.out (lines_in c.args.lines.now) (lines_in (take c.loop-line.line-index c.args.lines.now))
    (lines_in (drop (suc c.loop-line.line-index) c.args.lines.now)) (line_step c.line-item.result) (lines_around c.args.lines.now c.loop-line.line-index c.line-item.result c.loop-line-test.true c.line-item.is)
    c.loop-line.invariant.told c.in_err-write_line.ensures.torn)
