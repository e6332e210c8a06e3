use Rattle.std.proofs.Common.{arith, ◌≡◌, ◌<◌, length, get_or, ap}
use Rattle.std.proofs.lemmas.List.{length-map, map-set, get_or_read}
use Rattle.std.proofs.Math.Seq.{map-set_same}
use Rattle.sdcl_prop.specs.declared.nodes.Node.{Node}
use Rattle.sdcl_prop.proofs.Pairs.{pair_is}
use Rattle.sdcl_prop.proofs.nodes.Nodes.set_link.Goals as goal

pub returns : goal.returns
returns c =
    let ns = c.self.inside.nodes.items in
    let i = c.args.node in
    let x = c.index_mut.result.now in
    let n : Node = record { link = c.args.link; lit = x.lit } in
    let lt : i < length ns = omega (arith, length-map ns (λ n. n.link), rw (← c.self.view_is) at c.requires) in
    let there : x ≡ get_or ns i x = get_or_read ns i x lt c.index_mut.ensures.value x in
    rw (← c.self.view_is) (pair_is _ _ _ _ (map-set (λ n. n.link) ns i n) (map-set_same (λ n. n.lit) ns i n x (ap (λ n. n.lit) there)))
