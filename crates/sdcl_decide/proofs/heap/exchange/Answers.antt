use Rattle.sdcl_decide.proofs.Links.{writes_exchange, linked-exchange}
use Rattle.sdcl_decide.proofs.heap.exchange.Goals as goal

pub returns-clause-linked : goal.returns-clause-linked
returns-clause-linked c =
    linked-exchange c.args.i c.args.j c.args.vars.now c.args.places.now c.swap.new.self _
    (writes_exchange c.args.i c.args.j c.args.vars.now c.args.places.now c.swap.new.self
    c.requires.i.0 c.requires.i.1 c.requires.j.0 c.requires.j.1
    c.requires.linked c.swap.ensures.len c.swap.ensures.by_index)
    c.requires.linked
