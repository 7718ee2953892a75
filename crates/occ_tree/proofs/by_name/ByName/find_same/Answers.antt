use Rattle.std.proofs.Common.{◌∙◌, ◌+◌, take, drop, sym, ap, subst, arith}
use Rattle.spots.specs.Forest.{moment_at}
use Rattle.occ_tree.specs.Nodes.{way_to, forest_in}
use Rattle.occ_tree.specs.Standing.{Grove, nodes_in, present_rows}
use Rattle.occ_tree.proofs.Finding.{Spells, spelt_root, spelt_further, no_root, no_further}
use Rattle.occ_tree.proofs.Same.{names_to, names_whole, names_more, names_part, same_moment, same_spelt}
use Rattle.occ_tree.proofs.Telling.{live_on_way}
use Rattle.occ_tree.proofs.Ways.{length-way}
use Rattle.occ_tree.proofs.by_name.ByName.find_same.Goals as goal

pub get-requires : goal.get-requires
get-requires c =
    let there = nodes_in (present_rows c.nodes-nodes.result.now) in
    let placed = c.get-node.ensures.stands.placed in
    let n = c.get-node.result.now in
    live_on_way there placed c.args.x n c.get-node.ensures.node 0 c.root.result (omega arith)
    (ap (λ r. (way_to there r).numbers) c.root.ensures ∙ (placed.each c.args.x n c.get-node.ensures.node).root)

pub returns-in_err-same : goal.returns-in_err-same
returns-in_err-same c =
    let here = nodes_in (present_rows c.args.self.now.nodes) in
    let there = nodes_in (present_rows c.nodes-nodes.result.now) in
    let placed = c.get-node.ensures.stands.placed in
    let n = c.get-node.result.now in
    let q = c.get.result.now in
    let x = c.args.x in
    let up = ap (λ r. (way_to there r).numbers) c.root.ensures ∙ (placed.each x n c.get-node.ensures.node).root in
    let names = names_part there placed x n c.get-node.ensures.node 0 c.root.result q (omega arith) up c.get.ensures.node in
    let view = ap (λ (g : Grove). moment_at (forest_in (nodes_in (present_rows g))) x) c.nodes-nodes.ensures in
    rw c.from_residual.ensures
    (λ y m at is.
    no_root here c.in_err-same.ensures.placed y q.name (drop 1 (names_to there x)) c.in_err-same.ensures.named
    (subst (Spells here y) names (same_spelt there placed x n c.get-node.ensures.node here c.in_err-same.ensures.placed y m at (is ∙ sym view))))

pub loop-above-init : goal.loop-above-init
loop-above-init c =
    let here = nodes_in (present_rows c.args.self.now.nodes) in
    let there = nodes_in (present_rows c.nodes-nodes.result.now) in
    let placed = c.get-node.ensures.stands.placed in
    let n = c.get-node.result.now in
    let q = c.get.result.now in
    let x = c.args.x in
    let up = ap (λ r. (way_to there r).numbers) c.root.ensures ∙ (placed.each x n c.get-node.ensures.node).root in
    let names = names_more there placed x n c.get-node.ensures.node 0 c.root.result q (omega arith) up c.get.ensures.node in
    subst (Spells here c.in_ok-same.same) (sym names) (spelt_root here c.in_ok-same.ensures.placed c.in_ok-same.same q.name c.in_ok-same.ensures.named)

pub ancestor_at-at-requires : goal.ancestor_at-at-requires
ancestor_at-at-requires c =
    let long = length-way (nodes_in (present_rows c.nodes-nodes.result.now)) c.args.x c.get-node.result.now c.get-node.ensures.node in
    let below = c.loop-above-test.true in
    record { node = omega (arith, long, below) }

pub get-requires-in-loop-above : goal.get-requires-in-loop-above
get-requires-in-loop-above c =
    let below = c.loop-above-test.true in
    live_on_way (nodes_in (present_rows c.nodes-nodes.result.now)) c.get-node.ensures.stands.placed c.args.x c.get-node.result.now c.get-node.ensures.node (c.loop-above.above + 1) c.ancestor_at-at.result (omega (arith, below)) c.ancestor_at-at.ensures

pub returns-in_err-same-2 : goal.returns-in_err-same-2
returns-in_err-same-2 c =
    let here = nodes_in (present_rows c.args.self.now.nodes) in
    let there = nodes_in (present_rows c.nodes-nodes.result.now) in
    let placed = c.get-node.ensures.stands.placed in
    let n = c.get-node.result.now in
    let q = c.get-in-loop-above.result.now in
    let x = c.args.x in
    let k = c.loop-above.above + 1 in
    let below = c.loop-above-test.true in
    let names = names_part there placed x n c.get-node.ensures.node k c.ancestor_at-at.result q (omega (arith, below)) c.ancestor_at-at.ensures c.get-in-loop-above.ensures.node in
    let view = ap (λ (g : Grove). moment_at (forest_in (nodes_in (present_rows g))) x) c.nodes-nodes.ensures in
    rw c.from_residual-in_err-same-2.ensures
    (λ y m at is.
    no_further here c.in_err-same-2.ensures.placed c.loop-above.same y (take k (names_to there x)) q.name (drop (k + 1) (names_to there x)) c.loop-above.invariant c.in_err-same-2.ensures.named
    (subst (Spells here y) names (same_spelt there placed x n c.get-node.ensures.node here c.in_err-same-2.ensures.placed y m at (is ∙ sym view))))

pub loop-above-preserved : goal.loop-above-preserved
loop-above-preserved c =
    let here = nodes_in (present_rows c.args.self.now.nodes) in
    let there = nodes_in (present_rows c.nodes-nodes.result.now) in
    let placed = c.get-node.ensures.stands.placed in
    let n = c.get-node.result.now in
    let q = c.get-in-loop-above.result.now in
    let x = c.args.x in
    let k = c.loop-above.above + 1 in
    let below = c.loop-above-test.true in
    let names = names_more there placed x n c.get-node.ensures.node k c.ancestor_at-at.result q (omega (arith, below)) c.ancestor_at-at.ensures c.get-in-loop-above.ensures.node in
    subst (Spells here c.in_ok-same-2.same) (sym names)
    (spelt_further here c.in_ok-same-2.ensures.placed c.loop-above.same c.in_ok-same-2.same (take k (names_to there x)) q.name c.loop-above.invariant c.in_ok-same-2.ensures.named)

pub returns : goal.returns
returns c =
    let here = nodes_in (present_rows c.args.self.now.nodes) in
    let there = nodes_in (present_rows c.nodes-nodes.result.now) in
    let placed = c.get-node.ensures.stands.placed in
    let n = c.get-node.result.now in
    let x = c.args.x in
    let past = c.loop-above-test.false in
    let names = names_whole there placed x n c.get-node.ensures.node c.loop-above.above (omega (arith, past)) in
    let view = ap (λ (g : Grove). moment_at (forest_in (nodes_in (present_rows g))) x) c.nodes-nodes.ensures in
    let (m, at, is) = same_moment there placed x n c.get-node.ensures.node here c.in_ok-same.ensures.placed c.loop-above.same (subst (Spells here c.loop-above.same) names c.loop-above.invariant) in
    (m, at, is ∙ view)
