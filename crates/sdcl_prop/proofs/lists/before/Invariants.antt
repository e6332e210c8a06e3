use Rattle.std.proofs.Common.{length}
use Rattle.sdcl_prop.specs.Chains.{run}
use Rattle.sdcl_prop.proofs.Unlinks.{Seek}
use Rattle.sdcl_prop.proofs.lists.before.Given as goal

abbrev pub invariant-seeking : goal.invariant-seeking
invariant-seeking l = Seek l.nodes.0 (run l.nodes.0 l.head) l.node l.at

abbrev pub decreases-seeking : goal.decreases-seeking
decreases-seeking l = length (run l.nodes.0 l.at)
