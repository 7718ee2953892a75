-- The tokens of each class, with one more or one less, and where nodes change.
use Rattle.std.proofs.Common.{◌≡◌, ◌≢◌, ℕ, zero, suc, true, false, eqb, ◌<◌, ◌↔◌, List, [], ◌∷◌, ◌++◌, map, length, Option, Some, None, IsSome, refl, sym, ap, ◌∙◌, subst, inl, inr, arith, slice_index_or, take, drop, insert, eq-eqb, ne_eqb, eqb-true}
use Rattle.std.specs.List.{list_any}
use Rattle.std.specs.Option.{option_map, option_map_or}
use Rattle.std.specs.Prelude.{pos}
use Rattle.std.specs.declared.cmp.Ordering.{Ordering}
use Rattle.std.specs.declared.cmp.Ordering.TheVariants.{Less, Equal, Greater}
use Rattle.std.specs.Ordering.{is_lt, int_cmp, nat_cmp, ordering_then}
use Rattle.std.specs.Cmp.Lexicographic.{slice_cmp}
use Rattle.std.proofs.lemmas.Bool.{cases_eq, or_cases, false≢true, cond-true, cond-false}
use Rattle.std.proofs.lemmas.List.{map-append, take-map, length-map}
use Rattle.row_links.specs.Lists.{IsOn}
use Rattle.row_links.proofs.Lists.{IsOn-first, IsOn-rest}
use Rattle.undo_lists.specs.Rooms.{with_list, with_item}
use Rattle.tmm_model.specs.declared.token.TokenRow.{TokenRow}
use Rattle.tmm_model.specs.Moments.{At, printed}
use Rattle.tmm_model.specs.declared.point.PointName.TheVariants.{Start}
use Rattle.occ_tree.specs.declared.node.Node.{Node}
use Rattle.spots.specs.declared.spot.Spot.{Spot}
use Rattle.spots.specs.declared.spot.Spot.TheVariants.{Declared, Node as OfNode}
use Rattle.spots.specs.Forest.{Member, moment}
use Rattle.occ_tree.specs.Nodes.{Nodes, forest_in, date_in, ArePlaced}
use Rattle.occ_tree.specs.Tokens.{number_of, numbers_in, row_in, IsInOrder, IsPlaceFor, HasList, AreRowsOf, AreTokensBut}
use Rattle.occ_tree.specs.Words.{word_in, node_cmp}
use Rattle.occ_tree.proofs.Ranking.{nodes_total, node_strict}
use Rattle.occ_tree.proofs.InOrder.{insert-cases, insert-on, insert-itself, insert_ordered, on_back, turned, ordered_same}

pub is_less : (o : Ordering) → is_lt o ≡ true → o ≡ Less
is_less Less is = refl
is_less Equal is = absurd (false≢true is)
is_less Greater is = absurd (false≢true is)

pub no_less : (o : Ordering) → is_lt o ≡ false → o ≢ Less
no_less o is less = false≢true (sym is ∙ ap is_lt less)

at_map : {X : Type 0} (f : ℕ → X) (xs : List ℕ) (i : ℕ) (d : X) → i < length xs → slice_index_or (map f xs) i d ≡ f (slice_index_or xs i 0)
at_map f [] i d within = absurd (let few : i < 0 = within in omega arith)
at_map f (x ∷ xs) zero d within = refl
at_map f (x ∷ xs) (suc i) d within = at_map f xs i d (let few : suc i < suc (length xs) = within in omega arith)

pub length-numbers : (rows : List (TokenRow Spot)) → length (numbers_in rows) ≡ length rows
length-numbers rows = length-map rows (λ (row : TokenRow Spot). number_of row.spot)

-- the row at a place is of the number there
pub row_at : (node : Nodes) (rows : List (TokenRow Spot)) → rows ≡ map (row_in node) (numbers_in rows) → (i : ℕ) (d : TokenRow Spot) → i < length rows → slice_index_or rows i d ≡ row_in node (slice_index_or (numbers_in rows) i 0)
row_at node rows are i d within =
    let long = length-numbers rows in
    ap (λ l. slice_index_or l i d) are ∙ at_map (row_in node) (numbers_in rows) i d (omega (arith, long, within))

pub on_at : (ys : List ℕ) (k : ℕ) → k < length ys → IsOn ys (slice_index_or ys k 0)
on_at [] k within = absurd (let few : k < 0 = within in omega arith)
on_at (w ∷ ys) zero within = IsOn-first w ys
on_at (w ∷ ys) (suc k) within = IsOn-rest (slice_index_or ys k 0) w ys (on_at ys k (let few : suc k < suc (length ys) = within in omega arith))

-- a list with a number has a row
pub some_row : (rows : List (TokenRow Spot)) (y : ℕ) → IsOn (numbers_in rows) y → 0 < length rows
some_row [] y on = absurd (false≢true on)
some_row (row ∷ rows) y on = omega arith

pub not_none : (n : ℕ) → eqb n 0 ≡ false → 0 < n
not_none zero is = absurd (false≢true (sym is))
not_none (suc n) is = omega arith

-- ---- lists as they are kept

pub some_is : (o : Option Node) → (n : Node) → o ≡ Some n → IsSome o
some_is o n is = subst (λ (p : Option Node). IsSome p) (sym is) refl

pub rows_of : (node : Nodes) (lists : ℕ → List (TokenRow Spot)) (out : List ℕ) → AreTokensBut node lists out → (k : ℕ) → AreRowsOf node (lists k)
rows_of node lists out t k = record {
  rows_are = t.rows k;
  live = λ y on. let ((n, at, list), free) = (t.each y k).0 on in some_is (node y) n at;
  in_order = t.in_order k;
}

pub drop-map-own : {X Y : Type 0} (f : X → Y) (n : ℕ) (xs : List X) → drop n (map f xs) ≡ map f (drop n xs)
drop-map-own f zero xs = refl
drop-map-own f (suc n) [] = refl
drop-map-own f (suc n) (x ∷ xs) = drop-map-own f n xs

map-insert : {X Y : Type 0} (f : X → Y) (xs : List X) (i : ℕ) (x : X) → map f (insert xs i x) ≡ insert (map f xs) i (f x)
map-insert f xs i x = map-append f (take i xs) (x ∷ drop i xs) ∙ (λ j. sym (take-map f i xs) j ++ f x ∷ sym (drop-map-own f i xs) j)

pub with_list-same : (lists : ℕ → List (TokenRow Spot)) (k : ℕ) (rows : List (TokenRow Spot)) → with_list lists k rows k ≡ rows
with_list-same lists k rows = cond-true (eqb k k) rows (lists k) (eq-eqb k k refl)

pub with_list-other : (lists : ℕ → List (TokenRow Spot)) (k : ℕ) (rows : List (TokenRow Spot)) (m : ℕ) → m ≢ k → with_list lists k rows m ≡ lists m
with_list-other lists k rows m other = cond-false (eqb m k) rows (lists m) (ne_eqb m k other)

-- what holds of the new list and of all others holds of all
pub each_list : (P : ℕ → List (TokenRow Spot) → Type 0) (lists : ℕ → List (TokenRow Spot)) (k : ℕ) (rows : List (TokenRow Spot)) → P k rows → ((m : ℕ) → m ≢ k → P m (lists m)) → (m : ℕ) → P m (with_list lists k rows m)
each_list P lists k rows own others m = elim (cases_eq m k) [
  | inl same ↦ subst (λ z. P z (with_list lists k rows z)) (sym same) (subst (P k) (sym (with_list-same lists k rows)) own)
  | inr other ↦ subst (P m) (sym (with_list-other lists k rows m other)) (others m other)
]

module _ (node : Nodes) (lists : ℕ → List (TokenRow Spot)) (out : List ℕ) (x : ℕ) (n : Node) (at : node x ≡ Some n) where
  pub only_list : (k m : ℕ) → n.list ≡ Some k → HasList node x m → m ≡ k
  only_list k m list (q, q_at, q_list) = let both : Some n ≡ Some q = sym at ∙ q_at in let same : n ≡ q = cc in let lists_same : Some m ≡ Some k = sym q_list ∙ ap (λ (z : Node). z.list) (sym same) ∙ list in cc

  module _ (placed : ArePlaced node) (k : ℕ) (list : n.list ≡ Some k) (free_x : IsOn out x → ⊥) (t : AreTokensBut node lists (x ∷ out)) (i : ℕ) (place : IsPlaceFor (node_cmp node) (numbers_in (lists k)) x i) where
    numbers_new : numbers_in (insert (lists k) i (row_in node x)) ≡ insert (numbers_in (lists k)) i x
    numbers_new = map-insert (λ (row : TokenRow Spot). number_of row.spot) (lists k) i (row_in node x)

    -- the node enters the list of its class
    pub tokens_put : AreTokensBut node (with_item lists k i (row_in node x)) out
    tokens_put = record {
      rows = each_list (λ m rows. rows ≡ map (row_in node) (numbers_in rows)) lists k (insert (lists k) i (row_in node x))
          (ap (λ l. insert l i (row_in node x)) (t.rows k) ∙ sym (map-insert (row_in node) (numbers_in (lists k)) i x) ∙ ap (map (row_in node)) (sym numbers_new))
          (λ m other. t.rows m);
      each = λ y m. each_list (λ j rows. IsOn (numbers_in rows) y ↔ (HasList node y j × (IsOn out y → ⊥))) lists k (insert (lists k) i (row_in node x)) (own y) (others y) m;
      in_order = each_list (λ m rows. IsInOrder (node_cmp node) (numbers_in rows)) lists k (insert (lists k) i (row_in node x))
          (subst (IsInOrder (node_cmp node)) (sym numbers_new) (insert_ordered (node_cmp node) (nodes_total node) (numbers_in (lists k)) i x (t.in_order k) place.before behind))
          (λ m other. t.in_order m);
    }
      where
        not_x : (y : ℕ) → IsOn (numbers_in (lists k)) y → y ≢ x
        not_x y on same = let (has, gone) = (t.each y k).0 on in gone (subst (λ z. IsOn (x ∷ out) z) (sym same) (IsOn-first x out))

        behind : (y : ℕ) → IsOn (drop i (numbers_in (lists k))) y → node_cmp node x y ≡ Less
        behind y on =
            let there = on_back i (numbers_in (lists k)) y on in
            let ((q, q_at, q_list), gone) = (t.each y k).0 there in
            turned (node_cmp node) (nodes_total node) x y (place.after y on) (λ tie. not_x y there (node_strict node placed y x (some_is (node y) q q_at) (some_is (node x) n at) tie))

        own : (y : ℕ) → IsOn (numbers_in (insert (lists k) i (row_in node x))) y ↔ (HasList node y k × (IsOn out y → ⊥))
        own y = subst (λ l. IsOn l y ↔ (HasList node y k × (IsOn out y → ⊥))) (sym numbers_new) (
          λ on. elim (cases_eq y x) [
            | inl same ↦ ((n, ap node same ∙ at, list), λ gone. free_x (subst (IsOn out) same gone))
            | inr other ↦ let (has, free) = (t.each y k).0 (insert-cases x i (numbers_in (lists k)) y other on) in (has, λ gone. free (IsOn-rest y x out gone))
          ],
          λ (has, free). elim (cases_eq y x) [
            | inl same ↦ subst (λ z. IsOn (insert (numbers_in (lists k)) i x) z) (sym same) (insert-itself x i (numbers_in (lists k)))
            | inr other ↦ insert-on x i (numbers_in (lists k)) y ((t.each y k).1 (
              has,
              λ gone. elim (or_cases (eqb y x) (list_any (eqb y) out) gone) [
                | inl same ↦ other (eqb-true y x same)
                | inr rest ↦ free rest
              ],
            ))
          ],
        )

        others : (y m : ℕ) → m ≢ k → IsOn (numbers_in (lists m)) y ↔ (HasList node y m × (IsOn out y → ⊥))
        others y m other = (
          λ on. let (has, free) = (t.each y m).0 on in (has, λ gone. free (IsOn-rest y x out gone)),
          λ (has, free). (t.each y m).1 (
            has,
            λ gone. elim (or_cases (eqb y x) (list_any (eqb y) out) gone) [
              | inl same ↦ other (only_list k m list (subst (λ z. HasList node z m) (eqb-true y x same) has))
              | inr rest ↦ free rest
            ],
          ),
        )

-- ---- nodes that change where they are not listed

module _ (a b : Nodes) (lists : ℕ → List (TokenRow Spot)) (out : List ℕ) (same : (y : ℕ) → (IsOn out y → ⊥) → b y ≡ a y) (members : (y : ℕ) → (IsOn out y → ⊥) → forest_in b y ≡ forest_in a y) (t : AreTokensBut a lists out) where
  free_of : (k y : ℕ) → IsOn (numbers_in (lists k)) y → IsOn out y → ⊥
  free_of k y on = ((t.each y k).0 on).1

  row_same : (y : ℕ) → (IsOn out y → ⊥) → row_in b y ≡ row_in a y
  row_same y free = λ i. record {
    spot = OfNode y;
    end = option_map_or (λ (n : Node). option_map Declared n.end) (same y free i) None;
    fact = option_map_or (λ (n : Node). n.what) (same y free i) [];
    class = option_map_or (λ (n : Node). option_map_or (λ (c : List ℕ). c) n.class n.what) (same y free i) [];
  }

  rows_same : (xs : List ℕ) → ((y : ℕ) → IsOn xs y → IsOn out y → ⊥) → map (row_in b) xs ≡ map (row_in a) xs
  rows_same [] free = refl
  rows_same (x ∷ xs) free = λ i. row_same x (free x (IsOn-first x xs)) i ∷ rows_same xs (λ y on. free y (IsOn-rest y x xs on)) i

  cmp_same : (y z : ℕ) → (IsOn out y → ⊥) → (IsOn out z → ⊥) → node_cmp b y z ≡ node_cmp a y z
  cmp_same y z free_y free_z = λ i.
      ordering_then (int_cmp (date y free_y i) (date z free_z i)) (slice_cmp nat_cmp (word y free_y i) (word z free_z i))
    where
      date : (w : ℕ) → (IsOn out w → ⊥) → date_in b w ≡ date_in a w
      date w free = ap (λ o. option_map_or (λ (n : Node). n.early) o (pos 0)) (same w free)

      word : (w : ℕ) → (IsOn out w → ⊥) → word_in b w ≡ word_in a w
      word w free = ap (λ (o : Option Member). printed (option_map_or moment o (At Start))) (members w free)

  pub tokens_same : AreTokensBut b lists out
  tokens_same = record {
    rows = λ k. t.rows k ∙ sym (rows_same (numbers_in (lists k)) (free_of k));
    each = λ y k. (
      λ on. let ((n, at, list), free) = (t.each y k).0 on in ((n, same y free ∙ at, list), free),
      λ ((n, at, list), free). (t.each y k).1 ((n, sym (same y free) ∙ at, list), free),
    );
    in_order = λ k. ordered_same (node_cmp a) (node_cmp b) (numbers_in (lists k)) (λ y z y_on z_on. cmp_same y z (free_of k y y_on) (free_of k z z_on)) (t.in_order k);
  }

-- a number that is of no node is on no list
pub tokens_but : (node : Nodes) (lists : ℕ → List (TokenRow Spot)) (out : List ℕ) (x : ℕ) → node x ≡ None → AreTokensBut node lists out → AreTokensBut node lists (x ∷ out)
tokens_but node lists out x none t = record {
  rows = t.rows;
  each = λ y k. (
    λ on. let ((n, at, list), free) = (t.each y k).0 on in (
      (n, at, list),
      λ gone. elim (or_cases (eqb y x) (list_any (eqb y) out) gone) [
        | inl same ↦ let both : Some n ≡ None = sym at ∙ ap node (eqb-true y x same) ∙ none in cc
        | inr rest ↦ free rest
      ],
    ),
    λ (has, free). (t.each y k).1 (has, λ gone. free (IsOn-rest y x out gone)),
  );
  in_order = t.in_order;
}

-- the same nodes are out, in another order
pub tokens_sorted : (node : Nodes) (lists : ℕ → List (TokenRow Spot)) (out sorted : List ℕ) → ((y : ℕ) → list_any (eqb y) sorted ≡ list_any (eqb y) out) → AreTokensBut node lists out → AreTokensBut node lists sorted
tokens_sorted node lists out sorted same t = record {
  rows = t.rows;
  each = λ y k. (
    λ on. let (has, free) = (t.each y k).0 on in (has, λ gone. free (sym (same y) ∙ gone)),
    λ (has, free). (t.each y k).1 (has, λ gone. free (same y ∙ gone)),
  );
  in_order = t.in_order;
}
