-- The tokens of each class, with one less.
use Rattle.std.proofs.Common.{◌≡◌, ◌≢◌, ℕ, suc, eqb, ◌<◌, ◌↔◌, List, [], ◌∷◌, ◌++◌, map, length, Some, None, sym, ap, ◌∙◌, subst, inl, inr, arith, slice_index_or, take, drop, eqb-true}
use Rattle.std.specs.List.{list_any, remove}
use Rattle.std.proofs.lemmas.Bool.{or_cases, false≢true, both_ways}
use Rattle.std.proofs.lemmas.List.{map-append, take-map}
use Rattle.row_links.specs.Lists.{IsOn, AreOnce, without}
use Rattle.row_links.proofs.Lists.{IsOn-first, IsOn-rest, without-new}
use Rattle.undo_lists.specs.Rooms.{without_item}
use Rattle.undo_rows.proofs.Listing.{IsOn-without, without-IsOn}
use Rattle.tmm_model.specs.declared.token.TokenRow.{TokenRow}
use Rattle.occ_tree.specs.declared.node.Node.{Node}
use Rattle.spots.specs.declared.spot.Spot.{Spot}
use Rattle.occ_tree.specs.Nodes.{Nodes}
use Rattle.occ_tree.specs.Tokens.{number_of, numbers_in, row_in, IsInOrder, IsPlaceFor, HasList, AreTokensBut}
use Rattle.occ_tree.specs.Words.{node_cmp}
use Rattle.occ_tree.proofs.Ranking.{nodes_total}
use Rattle.occ_tree.proofs.InOrder.{on_one, once, without_ordered, place_is, remove-without}
use Rattle.occ_tree.proofs.TokenLists.{each_list, only_list, length-numbers, drop-map-own}

map-remove : {X Y : Type 0} (f : X → Y) (xs : List X) (i : ℕ) → map f (remove xs i) ≡ remove (map f xs) i
map-remove f xs i = map-append f (take i xs) (drop (suc i) xs) ∙ (λ j. sym (take-map f i xs) j ++ sym (drop-map-own f (suc i) xs) j)

not_out : (x y : ℕ) → y ≢ x → IsOn (x ∷ []) y → ⊥
not_out x y other gone = other (on_one y x gone)

-- what is another, and not out
not_among : (x y : ℕ) (out : List ℕ) → y ≢ x → (IsOn out y → ⊥) → IsOn (x ∷ out) y → ⊥
not_among x y out other free gone = elim (or_cases (eqb y x) (list_any (eqb y) out) gone) [
  | inl same ↦ other (eqb-true y x same)
  | inr rest ↦ free rest
]

module _ (node : Nodes) (lists : ℕ → List (TokenRow Spot)) (out : List ℕ) (x : ℕ) (n : Node) (at : node x ≡ Some n) (free_x : IsOn out x → ⊥) (t : AreTokensBut node lists out) where
  module _ (k : ℕ) (list : n.list ≡ Some k) (i : ℕ) (place : IsPlaceFor (node_cmp node) (numbers_in (lists k)) x i) where
    found : (i < length (numbers_in (lists k))) × (slice_index_or (numbers_in (lists k)) i 0 ≡ x)
    found = place_is (node_cmp node) (nodes_total node) (numbers_in (lists k)) x i (t.in_order k) ((t.each x k).1 ((n, at, list), free_x)) place

    pub out_within : i < length (lists k)
    out_within = let long = length-numbers (lists k) in let within = found.0 in omega (arith, long, within)

    numbers_once : AreOnce (numbers_in (lists k))
    numbers_once = once (node_cmp node) (nodes_total node) (numbers_in (lists k)) (t.in_order k)

    numbers_new : numbers_in (remove (lists k) i) ≡ without x (numbers_in (lists k))
    numbers_new = map-remove (λ (row : TokenRow Spot). number_of row.spot) (lists k) i ∙ remove-without (numbers_in (lists k)) i x numbers_once found.0 found.1

    -- the node leaves the list of its class
    pub out_taken : AreTokensBut node (without_item lists k i) (x ∷ out)
    out_taken = record {
      rows = each_list (λ m rows. rows ≡ map (row_in node) (numbers_in rows)) lists k (remove (lists k) i)
          (ap (λ l. remove l i) (t.rows k) ∙ sym (map-remove (row_in node) (numbers_in (lists k)) i) ∙ ap (map (row_in node)) (sym (map-remove (λ (row : TokenRow Spot). number_of row.spot) (lists k) i)))
          (λ m other. t.rows m);
      each = λ y m. each_list (λ j rows. IsOn (numbers_in rows) y ↔ (HasList node y j × (IsOn (x ∷ out) y → ⊥))) lists k (remove (lists k) i) (own y) (others y) m;
      in_order = each_list (λ m rows. IsInOrder (node_cmp node) (numbers_in rows)) lists k (remove (lists k) i)
          (subst (IsInOrder (node_cmp node)) (sym numbers_new) (without_ordered (node_cmp node) (nodes_total node) (numbers_in (lists k)) x (t.in_order k)))
          (λ m other. t.in_order m);
    }
      where
        own : (y : ℕ) → IsOn (numbers_in (remove (lists k) i)) y ↔ (HasList node y k × (IsOn (x ∷ out) y → ⊥))
        own y = subst (λ l. IsOn l y ↔ (HasList node y k × (IsOn (x ∷ out) y → ⊥))) (sym numbers_new) (
          λ on.
              let (has, free) = (t.each y k).0 (IsOn-without x (numbers_in (lists k)) y on) in
              (has, not_among x y out (λ same. both_ways (list_any (eqb x) (without x (numbers_in (lists k)))) (without-new x (numbers_in (lists k)) numbers_once) (subst (IsOn (without x (numbers_in (lists k)))) same on)) free),
          λ (has, free). without-IsOn x (numbers_in (lists k)) y (λ same. free (subst (IsOn (x ∷ out)) (sym same) (IsOn-first x out))) ((t.each y k).1 (has, λ gone. free (IsOn-rest y x out gone))),
        )

        others : (y m : ℕ) → m ≢ k → IsOn (numbers_in (lists m)) y ↔ (HasList node y m × (IsOn (x ∷ out) y → ⊥))
        others y m other = (
          λ on. let (has, free) = (t.each y m).0 on in (has, not_among x y out (λ same. other (only_list node lists out x n at k m list (subst (λ z. HasList node z m) same has))) free),
          λ (has, free). (t.each y m).1 (has, λ gone. free (IsOn-rest y x out gone)),
        )

-- a number that is of no node any more
pub out_gone : (node : Nodes) (lists : ℕ → List (TokenRow Spot)) (x : ℕ) → node x ≡ None → AreTokensBut node lists (x ∷ []) → AreTokensBut node lists []
out_gone node lists x none t = record {
  rows = t.rows;
  each = λ y k. (
    λ on. (((t.each y k).0 on).0, false≢true),
    λ ((n, at, list), free). (t.each y k).1 ((n, at, list), not_out x y (λ same. let both : None ≡ Some n = sym none ∙ ap node (sym same) ∙ at in cc)),
  );
  in_order = t.in_order;
}
