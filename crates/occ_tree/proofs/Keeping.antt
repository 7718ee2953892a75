-- Tokens under the names of their classes, and nodes with their dates.
use Rattle.std.proofs.Common.{◌≡◌, ◌≢◌, ℕ, ◌<◌, ◌≤◌, List, [], ◌∷◌, map, length, Option, Some, None, IsSome, eqb, refl, sym, ap, ◌∙◌, subst, inl, inr, arith, slice_index_or, eqb-true, option_map}
use Rattle.std.specs.List.{Contains, list_any}
use Rattle.std.specs.Option.{option_map_or}
use Rattle.std.specs.Prelude.{pos, ◌+ℤ◌}
use Rattle.std.proofs.lemmas.Bool.{cases_eq, or_cases, false≢true, both_ways}
use Rattle.std.proofs.lemmas.Int.{ints}
use Rattle.std.proofs.lemmas.List.{length-take-le}
use Rattle.std.proofs.lemmas.List.Elements.{Contains-get_or}
use Rattle.list_theory.proofs.Elements.{In, In-from_Contains, Contains-from_In}
use Rattle.row_links.specs.Lists.{IsOn, AreOnce}
use Rattle.row_links.proofs.Lists.{IsOn-first, IsOn-rest}
use Rattle.tmm_model.specs.declared.token.TokenRow.{TokenRow}
use Rattle.undo_rows.specs.Tables.{Table}
use Rattle.occ_tree.specs.declared.node.Node.{Node}
use Rattle.occ_tree.specs.declared.node.Above.{Above}
use Rattle.spots.specs.declared.spot.Spot.{Spot}
use Rattle.spots.specs.declared.spot.Spot.TheVariants.{Declared, Node as OfNode}
use Rattle.occ_tree.specs.Classes.{place_in, HaveMore, IsNumberOf}
use Rattle.spots.specs.Forest.{Member}
use Rattle.occ_tree.specs.Nodes.{Nodes, way_to, root_of, member_of, forest_in, date_in, link_of, ArePlaced, WillBePlaced}
use Rattle.spots.specs.Spots.{links_low, token_row, AreApart, AreTokens}
use Rattle.occ_tree.specs.Standing.{nodes_in, tokens_under, AreKept}
use Rattle.occ_tree.specs.Tokens.{number_of, numbers_in, row_in, IsInOrder, AreTokensBut}
use Rattle.occ_tree.specs.Words.{node_cmp}
use Rattle.spots.proofs.Delays.{low_push}
use Rattle.occ_tree.proofs.Effects.{member_at}
use Rattle.occ_tree.proofs.InOrder.{once}
use Rattle.occ_tree.proofs.Numbered.{one_class, place_within, place_stays, place_behind, number_stays}
use Rattle.occ_tree.proofs.Ranking.{nodes_total}
use Rattle.occ_tree.proofs.Ways.{length-way, node_on_way}

-- ---- the rows of a list

on_map : (node : Nodes) (xs : List ℕ) (row : TokenRow Spot) → In row (map (row_in node) xs) → (x : ℕ) × IsOn xs x × (row_in node x ≡ row)
on_map node [] row at = absurd at
on_map node (x ∷ xs) row (inl here) = (x, IsOn-first x xs, here)
on_map node (x ∷ xs) row (inr rest) = let (y, on, is) = on_map node xs row rest in (y, IsOn-rest y x xs on, is)

in_map : (node : Nodes) (xs : List ℕ) (x : ℕ) → IsOn xs x → In (row_in node x) (map (row_in node) xs)
in_map node [] x on = absurd (false≢true on)
in_map node (y ∷ xs) x on = elim (or_cases (eqb x y) (list_any (eqb x) xs) on) [
  | inl same ↦ inl (ap (row_in node) (sym (eqb-true x y same)))
  | inr rest ↦ inr (in_map node xs x rest)
]

apart_rows : (node : Nodes) (xs : List ℕ) → AreOnce xs → AreApart (map (row_in node) xs)
apart_rows node [] once = tt
apart_rows node (x ∷ xs) (new, rest) = (
  λ k d within same.
      let (y, on, is) = on_map node xs (slice_index_or (map (row_in node) xs) k d) (In-from_Contains (map (row_in node) xs) (slice_index_or (map (row_in node) xs) k d) (contains_at (map (row_in node) xs) k d within)) in
      let spots : OfNode y ≡ OfNode x = ap (λ (r : TokenRow Spot). r.spot) is ∙ same in
      let numbers : y ≡ x = ap number_of spots in
      both_ways (list_any (eqb x) xs) new (subst (IsOn xs) numbers on),
  apart_rows node xs rest,
)
  where
    contains_at : (rows : List (TokenRow Spot)) (k : ℕ) (d : TokenRow Spot) → k < length rows → Contains rows (slice_index_or rows k d)
    contains_at rows k d within = Contains-get_or rows k d within

-- ---- the tokens of a class

-- the node of an occurrence
pub node_of_member : (node : Nodes) (x : ℕ) (m : Member) → forest_in node x ≡ Some m → (n : Node) × (node x ≡ Some n) × (m ≡ member_of (way_to node x) n)
node_of_member node x m at = by (node x) refl at
  where
    by : (o : Option Node) → node x ≡ o → option_map (member_of (way_to node x)) o ≡ Some m → (n : Node) × (node x ≡ Some n) × (m ≡ member_of (way_to node x) n)
    by None none here = absurd (cc)
    by (Some n) is here = (n, is, cc)

pub node_if_live : (node : Nodes) (x : ℕ) → IsSome (forest_in node x) → (n : Node) × (node x ≡ Some n)
node_if_live node x = by (node x) refl
  where
    by : (o : Option Node) → node x ≡ o → IsSome (option_map (member_of (way_to node x)) o) → (n : Node) × (node x ≡ Some n)
    by None none live = absurd (cc)
    by (Some n) at live = (n, at)

-- the row of a node that has a class
row_seen : (node : Nodes) (x : ℕ) (n : Node) (class : List ℕ) → node x ≡ Some n → n.class ≡ Some class → row_in node x ≡ record { spot = OfNode x; end = option_map Declared n.end; fact = n.what; class = class }
row_seen node x n class at has =
    (λ i. record {
      spot = OfNode x;
      end = option_map_or (λ (q : Node). option_map Declared q.end) (at i) None;
      fact = option_map_or (λ (q : Node). q.what) (at i) [];
      class = option_map_or (λ (q : Node). option_map_or (λ (c : List ℕ). c) q.class q.what) (at i) [];
    })
    ∙ (λ i. record { spot = OfNode x; end = option_map Declared n.end; fact = n.what; class = option_map_or (λ (c : List ℕ). c) (has i) n.what })

-- it is the token that the node is
row_is : (node : Nodes) (x : ℕ) (n : Node) (class : List ℕ) → node x ≡ Some n → n.class ≡ Some class → token_row x (member_of (way_to node x) n) ≡ Some (row_in node x)
row_is node x n class at has =
    ap (λ o. option_map (λ (c : List ℕ). record { spot = OfNode x; end = option_map Declared n.end; fact = n.what; class = c }) o) has
    ∙ ap (λ r. Some r) (sym (row_seen node x n class at has))

class_of_row : (x : ℕ) (m : Member) (row : TokenRow Spot) → token_row x m ≡ Some row → m.class ≡ Some row.class
class_of_row x m row at = by m.class refl at
  where
    by : (o : Option (List ℕ)) → m.class ≡ o → option_map (λ (c : List ℕ). record { spot = OfNode x; end = option_map Declared m.end; fact = m.what; class = c }) o ≡ Some row → m.class ≡ Some row.class
    by None none here = absurd (cc)
    by (Some c) is here = let same : record { spot = OfNode x; end = option_map Declared m.end; fact = m.what; class = c } ≡ row = cc in is ∙ ap (λ (r : TokenRow Spot). Some r.class) same

module _ (names : List (List ℕ)) (node : Nodes) (rows : ℕ → List (TokenRow Spot)) (kept : AreKept names node rows) where
  class_of : (x : ℕ) (n : Node) → node x ≡ Some n → (k : ℕ) → n.list ≡ Some k → (c : List ℕ) × (n.class ≡ Some c) × (place_in names c ≡ Some k)
  class_of x n at k list = by n.class refl (kept.numbers x n at)
    where
      by : (o : Option (List ℕ)) → n.class ≡ o → IsNumberOf names o n.list → (c : List ℕ) × (n.class ≡ Some c) × (place_in names c ≡ Some k)
      by None is none = absurd (let both : None ≡ Some k = sym none ∙ list in cc)
      by (Some c) is (j, j_is, j_at) = (c, is, j_at ∙ sym j_is ∙ list)

  list_of : (x : ℕ) (n : Node) (class : List ℕ) → node x ≡ Some n → n.class ≡ Some class → (k : ℕ) × (n.list ≡ Some k) × (place_in names class ≡ Some k)
  list_of x n class at is = subst (λ o. IsNumberOf names o n.list) is (kept.numbers x n at)

  -- the list under the number of a class is of its tokens
  pub tokens_of : (class : List ℕ) → AreTokens (forest_in node) class (tokens_under names rows class)
  tokens_of class = by (place_in names class) refl
    where
      found : (x : ℕ) (m : Member) (row : TokenRow Spot) → forest_in node x ≡ Some m → token_row x m ≡ Some row → row.class ≡ class → (n : Node) × (node x ≡ Some n) × (n.class ≡ Some class) × (row ≡ row_in node x)
      found x m row m_at row_at class_is =
          let (n, at, is) = node_of_member node x m m_at in
          let has : n.class ≡ Some class = ap (λ (k : Member). k.class) (sym is) ∙ class_of_row x m row row_at ∙ ap (λ c. Some c) class_is in
          let both : Some row ≡ Some (row_in node x) = sym row_at ∙ ap (token_row x) is ∙ row_is node x n class at has in
          (n, at, has, cc)

      by : (o : Option ℕ) → place_in names class ≡ o → AreTokens (forest_in node) class (option_map_or rows o [])
      by None none = record {
        own = λ row (k, within, is). absurd (omega (arith, within));
        all = λ x m row m_at row_at class_is.
            let (n, at, has, same) = found x m row m_at row_at class_is in
            let (k, list, place) = list_of x n class at has in
            let both : None ≡ Some k = sym none ∙ place in
            cc;
        once = tt;
      }
      by (Some k) at = record {
        own = λ row contained.
            let (x, on, is) = on_map node (numbers_in (rows k)) row (subst (In row) (kept.tokens.rows k) (In-from_Contains (rows k) row contained)) in
            let ((n, n_at, list), free) = (kept.tokens.each x k).0 on in
            let (c, has, place) = class_of x n n_at k list in
            let same : c ≡ class = one_class names c class k place at in
            (x, member_of (way_to node x) n, member_at node x n n_at, row_is node x n c n_at has ∙ ap (λ r. Some r) is, ap (λ (r : TokenRow Spot). r.class) (sym is ∙ row_seen node x n c n_at has) ∙ same);
        all = λ x m row m_at row_at class_is.
            let (n, n_at, has, same) = found x m row m_at row_at class_is in
            let (j, list, place) = list_of x n class n_at has in
            let both : Some j ≡ Some k = sym place ∙ at in
            let on = (kept.tokens.each x k).1 ((n, n_at, list ∙ both), λ none. false≢true none) in
            Contains-from_In (rows k) row (subst (λ (r : TokenRow Spot). In r (rows k)) (sym same) (subst (In (row_in node x)) (sym (kept.tokens.rows k)) (in_map node (numbers_in (rows k)) x on)));
        once = subst AreApart (sym (kept.tokens.rows k)) (apart_rows node (numbers_in (rows k)) (once (node_cmp node) (nodes_total node) (numbers_in (rows k)) (kept.tokens.in_order k)));
      }

  pub order_of : (class : List ℕ) → IsInOrder (node_cmp node) (numbers_in (tokens_under names rows class))
  order_of class = by (place_in names class)
    where
      by : (o : Option ℕ) → IsInOrder (node_cmp node) (numbers_in (option_map_or rows o []))
      by None = tt
      by (Some k) = kept.tokens.in_order k

  -- ---- more classes

  empty_behind : (k : ℕ) → length names ≤ k → rows k ≡ []
  empty_behind k behind = by (rows k) refl
    where
      by : (l : List (TokenRow Spot)) → rows k ≡ l → l ≡ []
      by [] is = refl
      by (r ∷ rest) is =
          let on = subst (λ z. IsOn (numbers_in z) (number_of r.spot)) (sym is) (IsOn-first (number_of r.spot) (numbers_in rest)) in
          let ((n, at, list), free) = (kept.tokens.each (number_of r.spot) k).0 on in
          let (c, has, place) = class_of (number_of r.spot) n at k list in
          let within = place_within names c k place in
          absurd (omega (arith, behind, within))

  module _ (new : List (List ℕ)) (more : HaveMore names new) where
    under_at : (class : List ℕ) → tokens_under new rows class ≡ tokens_under names rows class
    under_at class = by (place_in names class) refl
      where
        new_one : (o : Option ℕ) → place_in names class ≡ None → place_in new class ≡ o → option_map_or rows o [] ≡ []
        new_one None none at = refl
        new_one (Some k) none at = empty_behind k (place_behind names new more class k none at)

        by : (o : Option ℕ) → place_in names class ≡ o → option_map_or rows (place_in new class) [] ≡ option_map_or rows o []
        by None none = new_one (place_in new class) none refl
        by (Some k) at = ap (λ o. option_map_or rows o []) (place_stays names new more class k at)

    pub under_more : tokens_under new rows ≡ tokens_under names rows
    under_more = λ i class. under_at class i

    pub kept_more : AreKept new node rows
    kept_more = record { tokens = kept.tokens; numbers = λ x n at. number_stays names new more n.class n.list (kept.numbers x n at); dates = kept.dates }

-- ---- no nodes, and nodes that stay

pub kept_none : (names : List (List ℕ)) (node : Nodes) (rows : ℕ → List (TokenRow Spot)) → ((x : ℕ) → node x ≡ None) → ((k : ℕ) → rows k ≡ []) → AreKept names node rows
kept_none names node rows none bare = record {
  tokens = record {
    rows = λ k. subst (λ l. l ≡ map (row_in node) (numbers_in l)) (sym (bare k)) refl;
    each = λ y k. (
      λ on. absurd (false≢true (subst (λ l. IsOn (numbers_in l) y) (bare k) on)),
      λ ((n, at, list), free). let both : None ≡ Some n = sym (none y) ∙ at in cc,
    );
    in_order = λ k. subst (λ l. IsInOrder (node_cmp node) (numbers_in l)) (sym (bare k)) tt;
  };
  numbers = λ x n at. let both : None ≡ Some n = sym (none x) ∙ at in cc;
  dates = λ x n at. let both : None ≡ Some n = sym (none x) ∙ at in cc;
}

pub kept_same : (names : List (List ℕ)) (t same : Table Node 1) (rows others : ℕ → List (TokenRow Spot)) → same ≡ t → others ≡ rows → AreKept names (nodes_in t) rows → AreKept names (nodes_in same) others
kept_same names t same rows others is rows_are kept = subst (λ u. AreKept names (nodes_in u) others) (sym is) (subst (AreKept names (nodes_in t)) (sym rows_are) kept)

-- ---- a node more

-- the root of a node is there
pub root_there : (node : Nodes) → ArePlaced node → (x : ℕ) (n : Node) → node x ≡ Some n → (r : Node) × (node (root_of x n) ≡ Some r)
root_there node placed x n at =
    let long = length-way node x n at in
    let first = length-take-le 1 (way_to node x).numbers (omega (arith, long)) in
    node_on_way node (root_of x n) (subst (λ l. 0 < length l) (sym (placed.each x n at).root) (omega (arith, first)))

-- the date is that of the event and the least delay
abbrev pub IsInTime : Nodes → Node → Type 0
IsInTime node n = (a : Above) → n.above ≡ Some a → n.early ≡ date_in node a.parent +ℤ n.lo

pub date_at : (node : Nodes) (x : ℕ) (n : Node) → node x ≡ Some n → date_in node x ≡ n.early
date_at node x n at = ap (λ o. option_map_or (λ (q : Node). q.early) o (pos 0)) at

module _ (names : List (List ℕ)) (node new : Nodes) (rows entered : ℕ → List (TokenRow Spot)) (x : ℕ) (n : Node) (free : node x ≡ None) (here : new x ≡ Some n) (others : (y : ℕ) → y ≢ x → new y ≡ node y) (placed : ArePlaced node) (will : WillBePlaced node n)
    (kept : AreKept names node rows) where
  other_than : (y : ℕ) (m : Node) → node y ≡ Some m → y ≢ x
  other_than y m at same = let both : Some m ≡ None = sym at ∙ ap node same ∙ free in cc

  -- the date of one that was there
  date_stays : (y : ℕ) (m : Node) → node y ≡ Some m → date_in new y ≡ date_in node y
  date_stays y m at = ap (λ o. option_map_or (λ (q : Node). q.early) o (pos 0)) (others y (other_than y m at))

  date_of_new : IsInTime node n → n.early ≡ date_in new (root_of x n) +ℤ n.sums.low
  date_of_new timely = by n.above refl
    where
      by : (o : Option Above) → n.above ≡ o → n.early ≡ date_in new (option_map_or (λ (a : Above). a.root) o x) +ℤ n.sums.low
      by None above =
          let (level, sums) = will.root above in
          let none : n.sums.low ≡ pos 0 = sums.low in
          let date : date_in new x ≡ n.early = date_at new x n here in
          omega (arith, ints, none, date)
      by (Some a) above =
          let c = will.parent a above in
          let p = c.above in
          let (r, r_at) = root_there node placed a.parent p c.at in
          let time = timely a above in
          let parent_date : date_in node a.parent ≡ p.early = date_at node a.parent p c.at in
          let parent_is : p.early ≡ date_in node (root_of a.parent p) +ℤ p.sums.low = kept.dates a.parent p c.at in
          let root_date : date_in new a.root ≡ date_in node (root_of a.parent p) = ap (date_in new) c.root ∙ date_stays (root_of a.parent p) r r_at in
          let links = (way_to node a.parent).links in
          let low : n.sums.low ≡ links_low links +ℤ n.lo = c.sums.low ∙ low_push links (link_of n) in
          let parent_low : p.sums.low ≡ links_low links = (placed.each a.parent p c.at).sums.low in
          omega (arith, ints, time, parent_date, parent_is, root_date, low, parent_low)

  pub kept_new : IsInTime node n → IsNumberOf names n.class n.list → AreTokensBut new entered [] → AreKept names new entered
  kept_new timely number tokens = record {
    tokens = tokens;
    numbers = λ y m at. elim (cases_eq y x) [
      | inl same ↦ let is : n ≡ m = (let both : Some n ≡ Some m = sym here ∙ ap new (sym same) ∙ at in cc) in subst (λ (q : Node). IsNumberOf names q.class q.list) is number
      | inr other ↦ kept.numbers y m (sym (others y other) ∙ at)
    ];
    dates = λ y m at. elim (cases_eq y x) [
      | inl same ↦
          let is : n ≡ m = (let both : Some n ≡ Some m = sym here ∙ ap new (sym same) ∙ at in cc) in
          subst (λ z. m.early ≡ date_in new (root_of z m) +ℤ m.sums.low) (sym same) (subst (λ (q : Node). q.early ≡ date_in new (root_of x q) +ℤ q.sums.low) is (date_of_new timely))
      | inr other ↦
          let was : node y ≡ Some m = sym (others y other) ∙ at in
          let (r, r_at) = root_there node placed y m was in
          kept.dates y m was ∙ ap (λ z. z +ℤ m.sums.low) (sym (date_stays (root_of y m) r r_at))
    ];
  }
