use Rattle.std.proofs.Common.{◌≡◌, ◌++◌, take, drop}
use Rattle.sdcl_decide.specs.Queue.{divided}
use Rattle.sdcl_decide.proofs.queue.divide_all.Given as goal

abbrev pub invariant-loop-score : goal.invariant-loop-score
invariant-loop-score l =
    l.scores ≡ divided (take l.score-index l.fn.scores) ++ drop l.score-index l.fn.scores
