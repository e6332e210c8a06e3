use Rattle.std.proofs.Common.{sym, ◌∙◌, arith}
use Rattle.sdcl_words.proofs.Meaning.{this_row, later_row, no_row}
use Rattle.sdcl_words.proofs.value.meant_by.Goals as goal

pub returns-then-eq : goal.returns-then-eq
returns-then-eq g c = sym (this_row c.args.words.now c.loop-word.word-index c.loop-word-item.result c.args.text.now c.loop-word-test.true c.loop-word-item.is (sym c.eq.ensures ∙ c.if-eq.true)) ∙ c.loop-word.invariant

pub loop-word-preserved : goal.loop-word-preserved
loop-word-preserved g c = later_row c.args.words.now c.loop-word.word-index c.loop-word-item.result c.args.text.now c.loop-word-test.true c.loop-word-item.is (sym c.eq.ensures ∙ c.if-eq.false) ∙ c.loop-word.invariant

pub returns : goal.returns
returns g c = sym (no_row c.args.words.now c.loop-word.word-index c.args.text.now (omega arith)) ∙ c.loop-word.invariant
