use Rattle.std.proofs.Common.{◌≡◌, drop, length}
use Rattle.sdcl_decide.specs.Deciding.{next_bump, fronted, with_scores, AreBehind}
use Rattle.sdcl_decide.proofs.bumping.bring_to_front.Given as goal

abbrev pub invariant-loop-x : goal.invariant-loop-x
invariant-loop-x l = record {
  same : l.queue ≡ with_scores l.fn.queue l.queue.scores;
  rest : fronted (next_bump l.last) (drop l.x-index l.vars) l.queue.scores
      ≡ fronted (next_bump l.last) l.vars l.fn.queue.scores;
  behind : AreBehind l.number l.queue.scores;
  width : length l.queue.scores ≡ length l.fn.queue.scores;
}
