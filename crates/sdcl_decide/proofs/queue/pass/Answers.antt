use Rattle.std.proofs.Common.{ap, ◌∙◌, ◌≤◌, ◌<◌, arith, length, sym, ⊎_elim}
use Rattle.sdcl_decide.specs.Queue.{is_given}
use Rattle.sdcl_decide.proofs.Passing.{passed_stay, passed_only}
use Rattle.sdcl_decide.proofs.queue.pass.Goals as goal

pub loop-last-preserved : goal.loop-last-preserved
loop-last-preserved c =
    let last = c.loop-last.last in
    let vars = c.loop-last.vars in
    let q = c.loop-last.invariant.queue in
    let e = c.exchange.ensures in
    let some : 1 ≤ last = omega arith in
    let room : last < length vars = omega (arith, q.width, q.within) in
    record {
      queue = record {
        width = omega (arith, q.width);
        small = q.small;
        linked = c.sink.ensures.linked;
        scored = omega (arith, q.scored);
        within = omega (arith, q.within);
        order = c.sink.ensures.order;
      };
      within = omega arith;
      passes = record {
        stay = λ x h. passed_stay last vars c.loop-last.places c.exchange.new.places
            c.sink.new.places
            q.linked some room e.i e.j e.others c.sink.ensures.same x
            (c.loop-last.invariant.passes.stay x h);
        only = λ x left h. ⊎_elim
            (λ is. ap (is_given c.args.trail.now.lits) is ∙ sym c.if-is_assigned.ensures)
            (λ behind. c.loop-last.invariant.passes.only x left behind)
            (passed_only last vars c.loop-last.places c.exchange.new.places c.sink.new.places
            q.linked some room e.i e.j e.others c.sink.ensures.same x h);
      };
    }
