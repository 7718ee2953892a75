-- Classes that an edit left alone.
use Rattle.std.proofs.Common.{◌≡◌, ℕ, Bool, List, [], length, Option, Some, None, refl, sym, ap, ◌∙◌, subst, arith}
use Rattle.std.specs.List.{Contains}
use Rattle.std.specs.Option.{option_map_or}
use Rattle.undo_lists.specs.Changes.{Logged}
use Rattle.undo_lists.specs.Changes as lists
use Rattle.tmm_model.specs.declared.token.TokenRow.{TokenRow}
use Rattle.spots.specs.declared.spot.Spot.{Spot}
use Rattle.spots.specs.Forest.{Member}
use Rattle.spots.specs.Spots.{AreTokens}
use Rattle.occ_tree.specs.Classes.{place_in, IsNumberOf}
use Rattle.occ_tree.specs.Marks.{IsMarked, AreMarked, AreListsMarked}
use Rattle.occ_tree.specs.Nodes.{Nodes, forest_in}
use Rattle.occ_tree.specs.Standing.{Kept, tokens_under, AreKept, IsTree, committed, forest}
use Rattle.occ_tree.proofs.Keeping.{node_of_member, tokens_of}
use Rattle.occ_tree.proofs.Numbered.{place_within}

-- **The tokens of each class at the last commit are those of the nodes of then.**
pub tokens_before : (k : Kept) → IsTree k.nodes k.classes k.tokens → (class : List ℕ) → AreTokens (forest (committed k)) class ((committed k).tokens class)
tokens_before k tree class = tokens_of k.classes _ (lists.committed k.tokens) tree.then_ class

module _ (names told : List (List ℕ)) (marks : List Bool) (long : length marks ≡ length names) (all : (class : List ℕ) (k : ℕ) → place_in names class ≡ Some k → IsMarked marks k → Contains told class) where
  -- the list of a class that is not told is that of the last commit
  pub others_same : (tokens : Logged (TokenRow Spot)) (changed : List ℕ) → AreMarked marks changed → ((k : ℕ) → (Contains changed k → ⊥) → lists.present tokens k ≡ lists.committed tokens k)
      → (class : List ℕ) → (Contains told class → ⊥) → tokens_under names (lists.present tokens) class ≡ tokens_under names (lists.committed tokens) class
  others_same tokens changed marked same class other = by (place_in names class) refl
    where
      by : (o : Option ℕ) → place_in names class ≡ o → tokens_under names (lists.present tokens) class ≡ tokens_under names (lists.committed tokens) class
      by None none = ap (λ o. option_map_or (lists.present tokens) o []) none ∙ sym (ap (λ o. option_map_or (lists.committed tokens) o []) none)
      by (Some k) at =
          let within = place_within names class k at in
          let stays = same k (λ there. other (all class k at (marked k there (omega (arith, within, long))))) in
          ap (λ o. option_map_or (lists.present tokens) o []) at ∙ stays ∙ sym (ap (λ o. option_map_or (lists.committed tokens) o []) at)

  -- the class of each of these nodes is told
  pub class_told : (node : Nodes) (rows : ℕ → List (TokenRow Spot)) (numbers : List ℕ) → AreKept names node rows → AreListsMarked node marks numbers
      → (class : List ℕ) (x : ℕ) (m : Member) → Contains numbers x → forest_in node x ≡ Some m → m.class ≡ Some class → Contains told class
  class_told node rows numbers kept marked class x m there at has =
      let (n, n_at, is) = node_of_member node x m at in
      let own : n.class ≡ Some class = ap (λ (q : Member). q.class) (sym is) ∙ has in
      let (k, list, place) = subst (λ o. IsNumberOf names o n.list) own (kept.numbers x n n_at) in
      let within = place_within names class k place in
      all class k place (marked x k there (n, n_at, list) (omega (arith, within, long)))
