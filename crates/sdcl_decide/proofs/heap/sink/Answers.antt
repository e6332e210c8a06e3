use Rattle.std.proofs.Common.{◌≡◌, ◌≤◌, ◌/◌, sym, ◌∙◌, get_or, arith}
use Rattle.sdcl_decide.specs.Heap.{rank_at}
use Rattle.sdcl_decide.proofs.Links.{same-exchange}
use Rattle.sdcl_decide.proofs.Ranks.{rank-before, ranks_exchanged, sinks_more}
use Rattle.sdcl_decide.proofs.heap.sink.Goals as goal

pub loop-at-preserved : goal.loop-at-preserved
loop-at-preserved c =
    let at = c.loop-at.at in
    let below = c.first_below-below.result in
    let half : below / 2 ≡ at = c.first_below-below.ensures.place in
    let high : below ≤ c.args.size = c.first_below-below.ensures.within.1 in
    record {
      linked = c.exchange.ensures.linked;
      low = omega (arith, c.first_below-below.ensures.within.0);
      order = sinks_more c.args.start c.args.size at below
          (rank_at c.args.scores.now c.loop-at.vars) _
          (ranks_exchanged c.args.scores.now c.loop-at.vars c.exchange.new.vars at below
          c.exchange.ensures.vars)
          c.loop-at.invariant.order half c.first_below-below.ensures.within.0 high
          c.first_below-below.ensures.first
          (rank-before c.args.scores.now (get_or c.loop-at.vars below 0)
          (get_or c.loop-at.vars at 0)
          (sym c.is_before.ensures ∙ c.if-not-is_before.false));
      same = λ x. same-exchange c.args.size at below c.loop-at.vars c.loop-at.places
          c.exchange.new.places
          c.loop-at.invariant.linked (omega arith) (omega arith) (omega arith) high
          c.exchange.ensures.i c.exchange.ensures.j c.exchange.ensures.others x
          ∙ c.loop-at.invariant.same x;
    }
