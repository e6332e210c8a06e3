use Rattle.std.proofs.Common.{◌≤◌, sym, ◌∙◌, ◌/◌, get_or, arith}
use Rattle.sdcl_decide.specs.Heap.{rank_at}
use Rattle.sdcl_decide.proofs.Links.{same-exchange}
use Rattle.sdcl_decide.proofs.Ranks.{rank-before, rank-not_before, ranks_exchanged, rises_more, rises_all}
use Rattle.sdcl_decide.proofs.heap.rise.Goals as goal

pub loop-at-preserved : goal.loop-at-preserved
loop-at-preserved c =
    let at = c.loop-at.at in
    let high : at ≤ c.args.size = c.loop-at.invariant.high in
    record {
      linked = c.exchange.ensures.linked;
      low = omega arith;
      high = omega arith;
      order = rises_more c.args.size at (rank_at c.args.scores.now c.loop-at.vars) _
          (ranks_exchanged c.args.scores.now c.loop-at.vars c.exchange.new.vars at
          (at / 2) c.exchange.ensures.vars)
          c.loop-at.invariant.order (omega arith) high
          (rank-before c.args.scores.now (get_or c.loop-at.vars at 0)
          (get_or c.loop-at.vars (at / 2) 0) (sym c.if-is_before.ensures));
      same = λ x. same-exchange c.args.size at
          (at / 2) c.loop-at.vars c.loop-at.places c.exchange.new.places
          c.loop-at.invariant.linked (omega arith) (omega arith) high (omega arith)
          c.exchange.ensures.i c.exchange.ensures.j c.exchange.ensures.others x
          ∙ c.loop-at.invariant.same x;
    }

pub returns-else-is_before-clause-order : goal.returns-else-is_before-clause-order
returns-else-is_before-clause-order c =
    rises_all c.args.size c.loop-at.at
    (rank_at c.args.scores.now c.loop-at.vars) c.loop-at.invariant.order
    (λ two. rank-not_before c.args.scores.now (get_or c.loop-at.vars c.loop-at.at 0)
    (get_or c.loop-at.vars (c.loop-at.at / 2) 0) (sym c.if-is_before.ensures))
