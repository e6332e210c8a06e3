use Rattle.std.proofs.Common.{ℕ, ◌≡◌, ◌+◌, ◌∙◌, arith, get_or, subst}
use Rattle.std.proofs.lemmas.Bool.{le-ltb}
use Rattle.sdcl_decide.specs.Heap.{rank_at}
use Rattle.sdcl_decide.proofs.Passing.{admitted_others}
use Rattle.sdcl_decide.proofs.Ranks.{ranks_exchanged, rises_new}
use Rattle.sdcl_decide.proofs.heap.admit.Goals as goal

pub rise-requires-clause-order : goal.rise-requires-clause-order
rise-requires-clause-order c =
    let at = get_or c.args.places.now c.args.var 0 in
    rises_new c.args.last at (rank_at c.args.scores.now c.args.vars.now) _
    (ranks_exchanged c.args.scores.now c.args.vars.now c.exchange.new.vars at
    (c.args.last + 1) c.exchange.ensures.vars)
    c.requires.behind c.requires.order

pub returns-clause-admits : goal.returns-clause-admits
returns-clause-admits c =
    let at : get_or c.exchange.new.places c.args.var 0 ≡ c.args.last + 1 =
    subst (λ (x : ℕ). get_or c.exchange.new.places x 0 ≡ c.args.last + 1)
    (c.requires.linked.found c.args.var c.requires.var) c.exchange.ensures.i in
    record {
      here = c.rise.ensures.same c.args.var
          ∙ le-ltb (c.args.last + 1) (get_or c.exchange.new.places c.args.var 0)
          (omega (arith, at));
      others = admitted_others c.args.last c.args.var c.args.vars.now c.args.places.now
          c.exchange.new.places c.rise.new.places c.requires.linked c.requires.var
          (omega (arith, c.requires.linked.within c.args.var c.requires.var)) c.requires.behind
          c.exchange.ensures.i c.exchange.ensures.j c.exchange.ensures.others c.rise.ensures.same;
    }
