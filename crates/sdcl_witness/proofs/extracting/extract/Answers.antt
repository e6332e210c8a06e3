use Rattle.sdcl_base.specs.Values.{truth_of}
use Rattle.sdcl_base.proofs.In.{in_filter_from}
use Rattle.sdcl_base.specs.Truth.{makes_true}
use Rattle.std.proofs.Common.{not}
use Rattle.sdcl_trail.specs.Levels.{decisions}
use Rattle.sdcl_witness.specs.Witnesses.{turned}
use Rattle.sdcl_witness.proofs.Levelled.{decisions_in}
use Rattle.sdcl_witness.proofs.Fronts.{first_in, turned_in}
use Rattle.sdcl_witness.proofs.extracting.extract.Goals as goal

pub put_decisions-requires-clause-first : goal.put_decisions-requires-clause-first
put_decisions-requires-clause-first c =
    let v = truth_of c.args.model.now in
    let d = c.lowest_turned-first.result in
    (in_filter_from (λ l. not (makes_true v l)) (decisions c.args.trail.now) d (first_in (turned v (decisions c.args.trail.now)) d c.lowest_turned-first.ensures)).0

pub put_turned-requires-clause-first : goal.put_turned-requires-clause-first
put_turned-requires-clause-first c =
    let v = truth_of c.args.model.now in
    let d = c.lowest_turned-first.result in
    turned_in v (decisions c.args.trail.now) c.args.trail.now.lits d (decisions_in c.args.trail.now) (first_in (turned v (decisions c.args.trail.now)) d c.lowest_turned-first.ensures)
