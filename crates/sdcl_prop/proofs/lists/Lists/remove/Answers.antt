use Rattle.std.proofs.Common.{arith, ◌≡◌, ◌<◌, ◌∙◌, ℕ, ◌-◌, ◌∷◌, List, length, set, get_or, Some, ap, sym, subst}
use Rattle.std.proofs.lemmas.List.{length-map, length-set, get_or_read}
use Rattle.sdcl_prop.specs.Chains.{list_from, walk, run, Distinct, IsRun, IsBefore}
use Rattle.sdcl_prop.proofs.Linked.{popped, Popped, linked, with_list}
use Rattle.sdcl_prop.proofs.Unlinks.{without_first, Unlinks, unlinks}
use Rattle.sdcl_prop.proofs.lists.Lists.remove.Goals as goal

run_from : (links : List ℕ) (h g : ℕ) → h ≡ g → IsRun links g → IsRun links h
run_from links h g e k = rw e k

pub before-requires-clause-chain : goal.before-requires-clause-chain
before-requires-clause-chain c =
    let heads = c.self.inside.heads.items in
    let links = c.self.inside.nodes.0 in
    let l = c.args.list in
    let h = c.index-head.result.now in
    let lt : l < length heads = omega (arith, length-map heads (λ h. walk links (length links) h), rw (← c.self.view_is) at c.requires.list) in
    run_from links h (get_or heads l 0) (get_or_read heads l h lt c.index-head.ensures 0) (record { chain = c.self.invariant.0.linked.chains l; distinct = c.self.invariant.0.linked.distinct l })

pub invariant_of-self : goal.invariant_of-self
invariant_of-self c =
    let heads = c.self.inside.heads.items in
    let links = c.self.inside.nodes.0 in
    let lits = c.self.inside.nodes.1 in
    let l = c.args.list in
    let w = c.args.node in
    let h = c.index-head.result.now in
    let x = c.link-after.result in
    let lt : l < length heads = omega (arith, length-map heads (λ h. walk links (length links) h), rw (← c.self.view_is) at c.requires.list) in
    let p : h - 1 ≡ w = omega (arith, c.if-head-node.true) in
    let o : (ws : List ℕ) × Popped heads links l w x ws =
    subst (λ n. (ws : List ℕ) × Popped heads links l n x ws) p (popped heads links l h x c.self.invariant.0 lt (get_or_read heads l h lt c.index-head.ensures 0) (λ e. let q : h ≡ 0 = e in omega (arith, c.if-head-node.true)) (c.link-after.ensures ∙ ap (λ n. get_or links n 0) (sym p))) in
    (linked (set heads l x) links (with_list (list_from heads links) l o.0) o.1.rest c.self.invariant.0.few, c.self.invariant.1)

pub returns-then-head-node : goal.returns-then-head-node
returns-then-head-node c =
    let heads = c.self.inside.heads.items in
    let links = c.self.inside.nodes.0 in
    let lits = c.self.inside.nodes.1 in
    let l = c.args.list in
    let w = c.args.node in
    let h = c.index-head.result.now in
    let x = c.link-after.result in
    let lt : l < length heads = omega (arith, length-map heads (λ h. walk links (length links) h), rw (← c.self.view_is) at c.requires.list) in
    let p : h - 1 ≡ w = omega (arith, c.if-head-node.true) in
    let o : (ws : List ℕ) × Popped heads links l w x ws =
    subst (λ n. (ws : List ℕ) × Popped heads links l n x ws) p (popped heads links l h x c.self.invariant.0 lt (get_or_read heads l h lt c.index-head.ensures 0) (λ e. let q : h ≡ 0 = e in omega (arith, c.if-head-node.true)) (c.link-after.ensures ∙ ap (λ n. get_or links n 0) (sym p))) in
    let d : Distinct (w ∷ o.0) = rw o.1.front at (c.self.invariant.0.linked.distinct l) in
    rw (← c.self.view_is) (without_first heads links lits l w x o.0 o.1 d)

pub set_link-requires : goal.set_link-requires
set_link-requires c =
    let heads = c.self.inside.heads.items in
    let links = c.self.inside.nodes.0 in
    let lits = c.self.inside.nodes.1 in
    let l = c.args.list in
    let w = c.args.node in
    let h = c.index-head.result.now in
    let x = c.link-after.result in
    let lt : l < length heads = omega (arith, length-map heads (λ h. walk links (length links) h), rw (← c.self.view_is) at c.requires.list) in
    let b : IsBefore (list_from heads links l) w (Some c.in-Some.v) = subst (λ g. IsBefore (run links g) w (Some c.in-Some.v)) (get_or_read heads l h lt c.index-head.ensures 0) c.in-Some.ensures in
    let o : Unlinks heads links lits l c.in-Some.v w x = unlinks heads links lits l c.in-Some.v w x c.self.invariant.0.linked b c.link-after.ensures in
    o.below

pub invariant_of-self-in-Some : goal.invariant_of-self-in-Some
invariant_of-self-in-Some c =
    let heads = c.self.inside.heads.items in
    let links = c.self.inside.nodes.0 in
    let lits = c.self.inside.nodes.1 in
    let l = c.args.list in
    let w = c.args.node in
    let h = c.index-head.result.now in
    let x = c.link-after.result in
    let lt : l < length heads = omega (arith, length-map heads (λ h. walk links (length links) h), rw (← c.self.view_is) at c.requires.list) in
    let b : IsBefore (list_from heads links l) w (Some c.in-Some.v) = subst (λ g. IsBefore (run links g) w (Some c.in-Some.v)) (get_or_read heads l h lt c.index-head.ensures 0) c.in-Some.ensures in
    let o : Unlinks heads links lits l c.in-Some.v w x = unlinks heads links lits l c.in-Some.v w x c.self.invariant.0.linked b c.link-after.ensures in
    rw c.set_link.ensures (linked heads (set links c.in-Some.v x) _ o.links_are (omega (arith, length-set links c.in-Some.v x, c.self.invariant.0.few)), omega (arith, length-set links c.in-Some.v x, c.self.invariant.1))

pub returns-in-Some : goal.returns-in-Some
returns-in-Some c =
    let heads = c.self.inside.heads.items in
    let links = c.self.inside.nodes.0 in
    let lits = c.self.inside.nodes.1 in
    let l = c.args.list in
    let w = c.args.node in
    let h = c.index-head.result.now in
    let x = c.link-after.result in
    let lt : l < length heads = omega (arith, length-map heads (λ h. walk links (length links) h), rw (← c.self.view_is) at c.requires.list) in
    let b : IsBefore (list_from heads links l) w (Some c.in-Some.v) = subst (λ g. IsBefore (run links g) w (Some c.in-Some.v)) (get_or_read heads l h lt c.index-head.ensures 0) c.in-Some.ensures in
    let o : Unlinks heads links lits l c.in-Some.v w x = unlinks heads links lits l c.in-Some.v w x c.self.invariant.0.linked b c.link-after.ensures in
    rw c.set_link.ensures (rw (← c.self.view_is) o.result)
