use Rattle.std.proofs.Common.{rules, ◌≡◌, ◌∙◌}
use Rattle.sdcl_base.specs.Marks.{firsts}
use Rattle.sdcl_base.proofs.Firsts.{firsts_same}
use Rattle.sdcl_journal.proofs.recorder.keep.Goals as goal

pub returns-clause-ok : goal.returns-clause-ok
returns-clause-ok c =
    let e : c.in_ok-clause.clause ≡ firsts c.args.lits.now = search rules in
    e ∙ firsts_same c.args.lits.now c.requires
