-- What is told of nodes that are gone are their occurrences.
use Rattle.std.proofs.Common.{◌≡◌, ℕ, List, map, sym, ap, subst}
use Rattle.tmm_model.specs.Moments.{Moment, moment_of}
use Rattle.list_theory.proofs.Elements.{In, In-from_Contains, Contains-from_In, In-map, map-In}
use Rattle.spots.specs.Forest.{moment_at}
use Rattle.occ_tree.specs.Places.{forest}
use Rattle.occ_tree.specs.Standing.{Kept}
use Rattle.belief_list.specs.declared.left_nodes.LeftNode.{LeftNode}
use Rattle.belief_list.specs.LeftNodes.{AreWords}
use Rattle.belief_table.specs.declared.dated.DatedOcc.{DatedOcc}
use Rattle.belief_turns.specs.Numbered.{KeepsNumbers, then_forest, left_under}
use Rattle.map_engine.specs.Gone.{seen_left}

pub words_are : (tree : Kept) (left : List DatedOcc) (nodes : List LeftNode) → map seen_left nodes ≡ left_under left → KeepsNumbers tree (left_under left)
    → AreWords (then_forest tree) (forest tree) nodes
words_are tree left nodes same numbers = record {
  all = λ x gone derived.
      let at : In (x, moment_at (then_forest tree) x) (map seen_left nodes) =
      subst (λ (l : List (ℕ × Moment)). In (x, moment_at (then_forest tree) x) l) (sym same) (numbers.told x gone.0 gone.1 derived) in
      let (n, there, is) = In-map seen_left nodes (x, moment_at (then_forest tree) x) at in
      Contains-from_In (map (λ (n : LeftNode). n.node) nodes) x
      (subst (λ (y : ℕ). In y (map (λ (n : LeftNode). n.node) nodes)) (ap (λ (p : ℕ × Moment). p.0) is) (map-In (λ (n : LeftNode). n.node) nodes n there));
  own = λ n there gone.
      numbers.own n.node (moment_of n.occ.now)
      (subst (λ (l : List (ℕ × Moment)). In (n.node, moment_of n.occ.now) l) same (map-In seen_left nodes n (In-from_Contains nodes n there))) gone.0;
}
