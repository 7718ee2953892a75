use Rattle.std.proofs.Common.{ℕ, Some, subst}
use Rattle.std.specs.Prelude.{MatchOption}
use Rattle.spots.proofs.Nodes.{node_at}
use Rattle.occ_tree.specs.Nodes.{ArePlaced}
use Rattle.occ_tree.specs.Standing.{Grove, nodes_in, present_rows, present, forest}
use Rattle.occ_tree.specs.Named.{IsNamed}
use Rattle.occ_tree.proofs.Effect.{effect_found}
use Rattle.occ_tree.proofs.tree.Tree.find_effect.Goals as goal

pub returns : goal.returns
returns c =
    let f = forest (present c.args.self.now) in
    let (m, at) = node_at f c.args.x c.requires in
    let placed = subst (λ (g : Grove). ArePlaced (nodes_in (present_rows g))) c.nodes.ensures c.named.ensures.placed in
    effect_found (nodes_in (present_rows c.args.self.now.nodes)) placed c.args.x m at c.args.rule.now c.named.result
    (subst (λ (g : Grove). MatchOption c.named.result ((z : ℕ) → IsNamed (nodes_in (present_rows g)) (Some c.args.x) c.args.rule.now z → ⊥) (IsNamed (nodes_in (present_rows g)) (Some c.args.x) c.args.rule.now)) c.nodes.ensures c.named.ensures.named)
