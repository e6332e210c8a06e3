use Rattle.std.proofs.Common.{rules, arith, ◌≡◌, ◌-◌, get_or, refl}
use Rattle.sdcl_prop.specs.Chains.{run}
use Rattle.sdcl_prop.proofs.Unlinks.{seek_start, seek_step, seek_end}
use Rattle.sdcl_prop.proofs.lists.before.Goals as goal

pub seeking-init : goal.seeking-init
seeking-init c = seek_start c.args.nodes.now.0 c.args.head c.args.node c.requires.chain (λ e. c.requires.other (omega (arith, e)))

pub link-next-requires : goal.link-next-requires
link-next-requires c =
    let links = c.args.nodes.now.0 in
    let at = c.seeking.at in
    let more : at ≡ 0 → ⊥ = search rules in
    (seek_step links (run links c.args.head) c.args.node at (get_or links (at - 1) 0) c.seeking.invariant more refl).below

pub returns-then-next-node : goal.returns-then-next-node
returns-then-next-node c =
    let links = c.args.nodes.now.0 in
    let at = c.seeking.at in
    let more : at ≡ 0 → ⊥ = search rules in
    (seek_step links (run links c.args.head) c.args.node at c.link-next.result c.seeking.invariant more c.link-next.ensures).found (omega (arith, c.if-next-node.true))

pub seeking-smaller : goal.seeking-smaller
seeking-smaller c =
    let links = c.args.nodes.now.0 in
    let at = c.seeking.at in
    let more : at ≡ 0 → ⊥ = search rules in
    (seek_step links (run links c.args.head) c.args.node at c.link-next.result c.seeking.invariant more c.link-next.ensures).shorter

pub seeking-preserved : goal.seeking-preserved
seeking-preserved c =
    let links = c.args.nodes.now.0 in
    let at = c.seeking.at in
    let more : at ≡ 0 → ⊥ = search rules in
    (seek_step links (run links c.args.head) c.args.node at c.link-next.result c.seeking.invariant more c.link-next.ensures).further (λ e. c.if-next-node.false (omega (arith, e)))

pub returns : goal.returns
returns c =
    let links = c.args.nodes.now.0 in
    let none : c.seeking.at ≡ 0 = search rules in
    seek_end links (run links c.args.head) c.args.node c.seeking.at c.seeking.invariant none
