use Rattle.std.proofs.Common.{arith, subst, sym, ap, ◌^◌}
use Rattle.sdcl_decide.specs.Deciding.{AreAtMost}
use Rattle.sdcl_decide.proofs.Scores.{AreAtMost-divided}
use Rattle.sdcl_decide.proofs.bumping.add_to_scores.Goals as goal

pub returns-then-next-gt-LIMIT-clause-bounded : goal.returns-then-next-gt-LIMIT-clause-bounded
returns-then-next-gt-LIMIT-clause-bounded c = (
  omega arith,
  subst (AreAtMost (2 ^ 60)) (sym (ap (λ q. q.scores) c.divide.ensures))
      (AreAtMost-divided c.raise_all-high.new.queue.scores c.raise_all-high.ensures.low),
)
