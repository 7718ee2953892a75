use Rattle.std.proofs.Common.{◌≡◌, ◌+◌, ◌∙◌, ap, arith, take}
use Rattle.ancestors.specs.Jumps.{jump_depth}
use Rattle.occ_tree.specs.Nodes.{way_to}
use Rattle.occ_tree.specs.Standing.{nodes_in, present_rows}
use Rattle.occ_tree.proofs.Ways.{length-way}
use Rattle.occ_tree.proofs.nodes.NodesAncestry.jump.Goals as goal

pub returns : goal.returns
returns c = λ d long.
    let node = nodes_in (present_rows c.args.self.now) in
    let x = c.args.x in
    let n = c.get.result.now in
    let deep = length-way node x n c.get.ensures.node in
    let same : n.depth ≡ d = omega (arith, deep, long) in
    ap (λ z. (way_to node z).numbers) c.jump.ensures ∙ (c.get.ensures.stands.placed.each x n c.get.ensures.node).jump ∙ ap (λ k. take (jump_depth k + 1) (way_to node x).numbers) same
