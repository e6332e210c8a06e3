use Rattle.std.proofs.Common.{sym, ap, ◌∙◌, ◌+◌, ◌≡◌, ◌<◌, ◌≤◌, arith, length, List, Bool, ℕ, get_or, subst}
use Rattle.std.proofs.lemmas.List.{get_or_read}
use Rattle.sdcl_decide.specs.Heap.{Admits, IsHeapFrom, rank_at}
use Rattle.sdcl_decide.specs.Queue.{Ranking, passed_of}
use Rattle.sdcl_decide.proofs.Passing.{written_back, passed_admitted, passed_at_hand}
use Rattle.sdcl_decide.proofs.queue.Queue.put_back.Goals as goal

pub invariant_of-self : goal.invariant_of-self
invariant_of-self c =
    let s = c.self.inside in
    let new = c.admit.new in
    let var : c.args.var ≤ s.variables = rw (← c.self.view_is) at c.requires.1 in
    let bound : c.args.var < length s.places.items = omega arith in
    let read : c.index.result.now ≡ get_or s.places.items c.args.var 0 =
    get_or_read s.places.items c.args.var _ bound c.index.ensures 0 in
    let order : IsHeapFrom 1 (s.last + 1) (rank_at s.scores.items new.vars) =
    subst (λ (t : List ℕ). IsHeapFrom 1 (s.last + 1) (rank_at t new.vars))
    c.deref.ensures.value c.admit.ensures.order in
    rw (
      written_back s.vars.items new.vars s.vars.len
          (omega arith),
      written_back s.places.items new.places s.places.len (omega arith),
    )
    (record {
      width = omega arith;
      small = c.self.invariant.small;
      linked = c.admit.ensures.linked;
      scored = omega arith;
      within = omega (arith, read, c.self.invariant.linked.within c.args.var (omega arith));
      order = order;
    })

pub returns-then-index-self : goal.returns-then-index-self
returns-then-index-self c =
    let s = c.self.inside in
    let made : List Bool → Ranking =
    λ p. record { variables = s.variables; scores = s.scores.items; passed = p } in
    let within : c.args.var ≤ s.variables = rw (← c.self.view_is) at c.requires.1 in
    let admits : Admits s.last c.args.var s.places.items c.admit.new.places =
    subst (λ (p : List ℕ). Admits s.last c.args.var p c.admit.new.places)
    c.deref_mut-then-index-self.ensures.value c.admit.ensures.admits in
    rw (← c.self.view_is)
    (ap (λ p. made (passed_of (s.last + 1) p))
    (written_back s.places.items c.admit.new.places s.places.len (omega arith))
    ∙ ap made
    (passed_admitted s.last c.args.var s.places.items c.admit.new.places (omega arith) (omega arith)
    admits))

pub returns-else-index-self : goal.returns-else-index-self
returns-else-index-self c =
    let s = c.self.inside in
    let made : List Bool → Ranking =
    λ p. record { variables = s.variables; scores = s.scores.items; passed = p } in
    let within : c.args.var ≤ s.variables = rw (← c.self.view_is) at c.requires.1 in
    let bound : c.args.var < length s.places.items = omega arith in
    let read : c.index.result.now ≡ get_or s.places.items c.args.var 0 =
    get_or_read s.places.items c.args.var _ bound c.index.ensures 0 in
    rw (← c.self.view_is)
    (ap made (sym (passed_at_hand s.last c.args.var s.places.items bound (omega (arith, read)))))
