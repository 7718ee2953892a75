-- What is below a node, in the order of nodes.
use Rattle.std.proofs.Common.{◌≡◌, ℕ, zero, suc, false, ◌<◌, List, [], ◌∷◌, ◌++◌, take, length, Some, IsSome, eqb, refl, sym, ap, ◌∙◌, subst, inl, inr, arith, ◌⊎◌, slice_index_or, eqb-true}
use Rattle.std.specs.List.{All, AllByRecursion, IsDistinct, list_any}
use Rattle.std.specs.List.Sorted.{IsPermutation, IsSortedBy}
use Rattle.std.specs.declared.cmp.Ordering.{Ordering}
use Rattle.std.specs.declared.cmp.Ordering.TheVariants.{Less, Equal, Greater}
use Rattle.std.specs.Ordering.{int_cmp, nat_cmp, ordering_then, ordering_reverse, is_lt}
use Rattle.std.specs.Prelude.{◌||◌, ℤ, pos, ◌+ℤ◌, ◌≤ℤ◌, ◌<ℤ◌}
use Rattle.std.specs.Cmp.{IsStrictWeakOrder}
use Rattle.std.specs.Cmp.Lexicographic.{slice_cmp}
use Rattle.std.proofs.lemmas.Bool.{or_cases, false≢true, both_ways}
use Rattle.std.proofs.lemmas.Cmp.{int_ranked, nat_eq_equiv}
use Rattle.std.proofs.lemmas.Int.{ints}
use Rattle.std.proofs.lemmas.List.{append-nil, take-append-le}
use Rattle.std.proofs.lemmas.List.Elements.{All-head, All-tail}
use Rattle.std.proofs.lemmas.List.Sorted.{sorted_far, ranks_by, list_any-IsPermutation, length_permutation}
use Rattle.std.proofs.lemmas.Map.Keys.{IsDistinct-IsPermutation}
use Rattle.row_links.specs.Lists.{IsOn, AreOnce}
use Rattle.row_links.proofs.Lists.{IsOn-first, IsOn-rest}
use Rattle.spots.specs.declared.link.Link.{Link}
use Rattle.spots.specs.Light.{IsLight}
use Rattle.spots.specs.Spots.{links_low}
use Rattle.spots.proofs.Delays.{low_push}
use Rattle.occ_tree.specs.Below.{IsRightBelow, LeadOn, ListsBelow}
use Rattle.occ_tree.specs.declared.node.Node.{Node}
use Rattle.occ_tree.specs.Nodes.{Nodes, Way, link_of, name_at, parent_of, root_of, way_to, date_in, FollowRoots, ArePlaced}
use Rattle.occ_tree.specs.Tokens.{IsInOrder}
use Rattle.occ_tree.specs.Words.{word_in, node_cmp, rank_in}
use Rattle.occ_tree.proofs.Effects.{above_of, way_below}
use Rattle.occ_tree.proofs.Gathering.{distinct_from_once}
use Rattle.occ_tree.proofs.InOrder.{on_one, turned}
use Rattle.occ_tree.proofs.Keeping.{root_there, date_at}
use Rattle.occ_tree.proofs.OnWays.{on_own, on_further, parent_there, way_right_below, way_leads}
use Rattle.occ_tree.proofs.Placing.{have_parents}
use Rattle.occ_tree.proofs.Ranking.{nodes_total, node_strict, rank_total, rank_of_nodes}
use Rattle.occ_tree.proofs.TokenLists.{some_is, on_at}
use Rattle.occ_tree.proofs.Ways.{length-way}
use Rattle.occ_tree.proofs.Wording.{cmp-front, text_on, text_on-push, word-on}

-- ---- a node is before those right below it

first_one : (l : List ℕ) (a b : ℕ) → IsOn (take 1 l) a → IsOn (take 1 l) b → a ≡ b
first_one [] a b on_a on_b = absurd (false≢true on_a)
first_one (z ∷ l) a b on_a on_b = on_one a z on_a ∙ sym (on_one b z on_b)

-- what is no later, and later in words, is behind
behind : (d e : ℤ) (o : Ordering) → d ≤ℤ e → o ≡ Less → ordering_then (int_cmp d e) o ≡ Less
behind d e o up less = by (int_cmp d e) refl
  where
    by : (r : Ordering) → int_cmp d e ≡ r → ordering_then (int_cmp d e) o ≡ Less
    by Less is = ap (λ q. ordering_then q o) is
    by Equal is = ap (λ q. ordering_then q o) is ∙ less
    by Greater is = absurd (let down : e <ℤ d = int_ranked d e Greater (sym is) in omega (arith, ints, up, down))

last_light : (ls : List Link) (l : Link) → All IsLight (ls ++ l ∷ []) → IsLight l
last_light [] l light = All-head IsLight l [] light
last_light (k ∷ ls) l light = last_light ls l (All-tail IsLight k (ls ++ l ∷ []) light)

module _ (node : Nodes) (placed : ArePlaced node) (dates : FollowRoots node) where
  module _ (x y : ℕ) (n : Node) (at : node y ≡ Some n) (below : parent_of n ≡ Some x) (p : Node) (p_at : node x ≡ Some p) where
    numbers_below : (way_to node y).numbers ≡ (way_to node x).numbers ++ y ∷ []
    numbers_below = way_right_below node (have_parents node placed) x y (n, at, below)

    one_root : root_of y n ≡ root_of x p
    one_root =
        let (r, r_at) = root_there node placed y n at in
        let (s, s_at) = root_there node placed x p p_at in
        let long = length-way node x p p_at in
        let firsts : take 1 (way_to node y).numbers ≡ take 1 (way_to node x).numbers = ap (take 1) numbers_below ∙ take-append-le 1 (way_to node x).numbers (y ∷ []) (omega (arith, long)) in
        first_one (way_to node x).numbers (root_of y n) (root_of x p)
        (subst (λ l. IsOn l (root_of y n)) ((placed.each y n at).root ∙ firsts) (on_own node (root_of y n) r r_at))
        (subst (λ l. IsOn l (root_of x p)) (placed.each x p p_at).root (on_own node (root_of x p) s s_at))

    links_below : (way_to node y).links ≡ (way_to node x).links ++ link_of n ∷ []
    links_below =
        let (a, above, is) = above_of n x below in
        ap (λ (w : Way). w.links) (way_below node placed y n a at above) ∙ ap (λ z. (way_to node z).links ++ link_of n ∷ []) is

    low_more : n.sums.low ≡ p.sums.low +ℤ n.lo
    low_more =
        (placed.each y n at).sums.low ∙ ap links_low links_below ∙ low_push (way_to node x).links (link_of n) ∙ ap (λ z. z +ℤ n.lo) (sym (placed.each x p p_at).sums.low)

    no_earlier : date_in node x ≤ℤ date_in node y
    no_earlier =
        let first = date_at node x p p_at ∙ dates x p p_at in
        let second = date_at node y n at ∙ dates y n at ∙ ap (λ z. date_in node z +ℤ n.sums.low) one_root in
        let least : pos 0 ≤ℤ n.lo = (last_light (way_to node x).links (link_of n) (subst (All IsLight) links_below (placed.each y n at).light.each)).least in
        let more = low_more in
        omega (arith, ints, first, second, more, least)

    longer : slice_cmp nat_cmp (word_in node x) (word_in node y) ≡ Less
    longer =
        let long = length-way node x p p_at in
        let word = word-on node x p p_at in
        let on = word-on node y n at ∙ ap (text_on node) numbers_below ∙ text_on-push node (way_to node x).numbers y (omega (arith, long)) ∙ ap (λ t. t ++ 47 ∷ name_at node y) (sym word) in
        ap (slice_cmp nat_cmp (word_in node x)) on ∙ ap (λ t. slice_cmp nat_cmp t (word_in node x ++ 47 ∷ name_at node y)) (sym (append-nil (word_in node x))) ∙ cmp-front (word_in node x) [] (47 ∷ name_at node y)

    is_before : node_cmp node x y ≡ Less
    is_before = behind (date_in node x) (date_in node y) (slice_cmp nat_cmp (word_in node x) (word_in node y)) no_earlier longer

  pub before_below : (x y : ℕ) → IsRightBelow node x y → node_cmp node x y ≡ Less
  before_below x y (n, at, below) = let (p, p_at, deep) = parent_there node (have_parents node placed) x y n at below in is_before x y n at below p p_at

  -- of two nodes that are each before the other there are none
  apart : (x y : ℕ) → node_cmp node x y ≡ Less → node_cmp node y x ≡ Less → ⊥
  apart x y up down = let turn : Less ≡ Greater = sym down ∙ (nodes_total node).antisymm y x ∙ ap ordering_reverse up in cc

  -- ---- in order each stands before those below it

  leads : (front xs : List ℕ) → IsInOrder (node_cmp node) xs → ((z y : ℕ) → IsOn front z → IsOn xs y → node_cmp node z y ≡ Less)
      → ((y z : ℕ) → IsOn xs y → IsRightBelow node y z → (IsOn front z) ⊎ (IsOn xs z)) → LeadOn node xs []
  leads front [] sorted before closed = tt
  leads front (y ∷ xs) (first, rest) before closed = (
    λ z below. subst (λ l. IsOn l z) (sym (append-nil xs)) (here z below (closed y z (IsOn-first y xs) below)),
    leads (y ∷ front) xs rest more (λ w z on below. onward z (closed w z (IsOn-rest w y xs on) below)),
  )
    where
      here : (z : ℕ) → IsRightBelow node y z → (IsOn front z) ⊎ (IsOn (y ∷ xs) z) → IsOn xs z
      here z below (inl front_on) = absurd (apart y z (before_below y z below) (before z y front_on (IsOn-first y xs)))
      here z below (inr on) = elim (or_cases (eqb z y) (list_any (eqb z) xs) on) [
        | inl same ↦ let less = subst (λ w. node_cmp node y w ≡ Less) (eqb-true z y same) (before_below y z below) in absurd (apart y y less less)
        | inr later ↦ later
      ]

      more : (z w : ℕ) → IsOn (y ∷ front) z → IsOn xs w → node_cmp node z w ≡ Less
      more z w on w_on = elim (or_cases (eqb z y) (list_any (eqb z) front) on) [
        | inl same ↦ subst (λ v. node_cmp node v w ≡ Less) (sym (eqb-true z y same)) (first w w_on)
        | inr earlier ↦ before z w earlier (IsOn-rest w y xs w_on)
      ]

      onward : (z : ℕ) → (IsOn front z) ⊎ (IsOn (y ∷ xs) z) → (IsOn (y ∷ front) z) ⊎ (IsOn xs z)
      onward z (inl front_on) = inl (IsOn-rest z y front front_on)
      onward z (inr on) = elim (or_cases (eqb z y) (list_any (eqb z) xs) on) [
        | inl same ↦ inl (subst (IsOn (y ∷ front)) (sym (eqb-true z y same)) (IsOn-first y front))
        | inr later ↦ inr later
      ]

-- ---- sorted numbers

place_of : (xs : List ℕ) (y : ℕ) → IsOn xs y → (j : ℕ) × (j < length xs) × (slice_index_or xs j 0 ≡ y)
place_of [] y on = absurd (false≢true on)
place_of (x ∷ xs) y on = elim (or_cases (eqb y x) (list_any (eqb y) xs) on) [
  | inl same ↦ (zero, omega arith, sym (eqb-true y x same))
  | inr rest ↦ let (j, within, is) = place_of xs y rest in (suc j, omega (arith, within), is)
]

once_apart : (xs : List ℕ) → AreOnce xs → (i j : ℕ) → i < j → j < length xs → slice_index_or xs i 0 ≡ slice_index_or xs j 0 → ⊥
once_apart [] once i j less within same = omega (arith, within)
once_apart (x ∷ xs) (new, once) i zero less within same = omega (arith, less)
once_apart (x ∷ xs) (new, once) zero (suc j) less within same =
    both_ways (list_any (eqb x) xs) new (subst (IsOn xs) (sym same) (on_at xs j (let all : suc j < suc (length xs) = within in omega arith)))
once_apart (x ∷ xs) (new, once) (suc i) (suc j) less within same = once_apart xs once i j (omega (arith, less)) (let all : suc j < suc (length xs) = within in omega arith) same

order_from_places : (cmp : ℕ → ℕ → Ordering) (xs : List ℕ) → ((i j : ℕ) → i < j → j < length xs → cmp (slice_index_or xs i 0) (slice_index_or xs j 0) ≡ Less) → IsInOrder cmp xs
order_from_places cmp [] pairs = tt
order_from_places cmp (x ∷ xs) pairs = (
  λ y on. let (j, within, is) = place_of xs y on in subst (λ z. cmp x z ≡ Less) is (pairs zero (suc j) (omega arith) (omega (arith, within))),
  order_from_places cmp xs (λ i j less within. pairs (suc i) (suc j) (omega (arith, less)) (omega (arith, within))),
)

module _ (node : Nodes) (placed : ArePlaced node) where
  pub rank_order : IsStrictWeakOrder (λ x y. is_lt (rank_in node x y))
  rank_order = ranks_by (rank_total node) (λ (x : ℕ). x)

  pub sorted_nodes : (xs : List ℕ) → ((y : ℕ) → IsOn xs y → IsSome (node y)) → AreOnce xs → IsSortedBy (λ x y. is_lt (rank_in node x y)) xs → IsInOrder (node_cmp node) xs
  sorted_nodes xs live once up = order_from_places (node_cmp node) xs pairs
    where
      pairs : (i j : ℕ) → i < j → j < length xs → node_cmp node (slice_index_or xs i 0) (slice_index_or xs j 0) ≡ Less
      pairs i j less within =
          let p = slice_index_or xs i 0 in
          let q = slice_index_or xs j 0 in
          let p_live = live p (on_at xs i (omega (arith, less, within))) in
          let q_live = live q (on_at xs j within) in
          let far : is_lt (rank_in node q p) ≡ false = sorted_far (λ x y. is_lt (rank_in node x y)) rank_order xs up i j 0 (omega (arith, less)) within in
          turned (node_cmp node) (nodes_total node) p q
          (λ down. false≢true (sym far ∙ ap is_lt (rank_of_nodes node q p q_live p_live ∙ down)))
          (λ tie. once_apart xs once i j less within (sym (node_strict node placed q p q_live p_live tie)))

-- ---- the same numbers in another order

none_from : (x : ℕ) (xs : List ℕ) → AllByRecursion (λ y. eqb x y ≡ false) xs → list_any (eqb x) xs ≡ false
none_from x [] others = refl
none_from x (y ∷ xs) (first, rest) = λ i. first i || none_from x xs rest i

once_from_distinct : (xs : List ℕ) → IsDistinct eqb xs → AreOnce xs
unfolding IsDistinct
once_from_distinct [] apart = tt
once_from_distinct (x ∷ xs) (first, rest) = (none_from x xs first, once_from_distinct xs rest)

pub on_same : (xs ys : List ℕ) → IsPermutation xs ys → (y : ℕ) → list_any (eqb y) ys ≡ list_any (eqb y) xs
on_same xs ys same y = sym (list_any-IsPermutation (eqb y) xs ys same)

pub once_same : (xs ys : List ℕ) → IsPermutation xs ys → AreOnce xs → AreOnce ys
once_same xs ys same once = once_from_distinct ys (IsDistinct-IsPermutation eqb nat_eq_equiv.symm xs ys same (distinct_from_once xs once))

module _ (node : Nodes) (placed : ArePlaced node) (x : ℕ) (xs ys : List ℕ) (below : ListsBelow node x xs) (same : IsPermutation xs ys) where
  once_sorted : AreOnce ys
  once_sorted = once_same xs ys same below.once

  pub in_order : IsSortedBy (λ y z. is_lt (rank_in node y z)) ys → IsInOrder (node_cmp node) ys
  in_order = sorted_nodes node placed ys (λ y on. let (n, at) = way_leads node x y ((below.each y).0 (sym (on_same xs ys same y) ∙ on)) in some_is (node y) n at) once_sorted

  pub below_sorted : FollowRoots node → IsSortedBy (λ y z. is_lt (rank_in node y z)) ys → ListsBelow node x ys
  below_sorted dates up = record {
    each = λ y. (λ on. (below.each y).0 (sym (on_same xs ys same y) ∙ on), λ on. on_same xs ys same y ∙ (below.each y).1 on);
    once = once_sorted;
    lead_on = leads node placed dates [] ys (in_order up) (λ z y none on. absurd (false≢true none)) (λ y z on right. inr (on_same xs ys same z ∙ (below.each z).1 (on_further node (have_parents node placed) x y z right ((below.each y).0 (sym (on_same xs ys same y) ∙ on)))));
    few = let long = length_permutation xs ys same in let few = below.few in omega (arith, long, few);
  }
