-- Nodes that are sorted by date and word are in the order of their occurrences.
use Rattle.std.proofs.Common.{◌≡◌, ◌∙◌, ℕ, zero, suc, ◌<◌, true, false, List, [], ◌∷◌, map, length, IsSome, refl, sym, ap, subst, arith}
use Rattle.std.specs.Prelude.{nat_eq, slice_index_or}
use Rattle.std.specs.List.{All, AllByRecursion, IsDistinct}
use Rattle.std.specs.List.Sorted.{IsSortedBy, IsStrictlySortedBy}
use Rattle.std.specs.declared.cmp.Ordering.{Ordering}
use Rattle.std.specs.declared.cmp.Ordering.TheVariants.{Less, Equal, Greater}
use Rattle.std.specs.Ordering.{ordering_reverse, is_lt}
use Rattle.std.specs.Cmp.{IsStrictWeakOrder}
use Rattle.std.proofs.lemmas.Bool.Decides.{Decides-eqb}
use Rattle.std.proofs.lemmas.List.{get_or-map, length-map}
use Rattle.std.proofs.lemmas.List.Elements.{All-contains, All-head, All-tail, Contains-get_or}
use Rattle.std.proofs.lemmas.List.Sorted.{sorted_far, ranks_by}
use Rattle.std.proofs.lemmas.Map.Keys.{apart_from_distinct}
use Rattle.tmm_model.specs.Maps.{built}
use Rattle.tmm_model.specs.Maps as maps
use Rattle.tmm_model.specs.Standing.{Standing}
use Rattle.tmm_model.specs.Types.{IsOrderOn}
use Rattle.dist_net.specs.Net.{Net}
use Rattle.spots.specs.declared.spot.Spot.TheVariants.{Node}
use Rattle.spots.specs.Forest.{Forest, IsLive, moment_at}
use Rattle.spots.specs.OfLists.{HasList, IsForestOf}
use Rattle.spots.specs.Spots.{node_cmp, spot_cmp}
use Rattle.spots.proofs.Laws.{IsThere, ordered}
use Rattle.spots.proofs.Seen.{order_is}
use Rattle.occ_tree.specs.declared.ranks.Ranked.{Ranked}
use Rattle.occ_tree.specs.Dated.{IsDatedBy}
use Rattle.occ_tree.specs.Known.{dated_cmp}
use Rattle.occ_tree.specs.Ranks.{rank_cmp, IsRanked, nodes_of}
use Rattle.occ_tree.specs.Standing.{State, nodes_in, forest}
use Rattle.occ_tree.proofs.Keeping.{node_if_live}
use Rattle.occ_tree.proofs.Ranking.{rank_total, rank_of_nodes}
use Rattle.occ_tree.proofs.TokenLists.{some_is}

-- the order in which they are sorted
abbrev pub rank_by : State → Ranked → Ranked → Ordering
rank_by s p q = rank_cmp s p.node q.node

pub rank_order : (s : State) → IsStrictWeakOrder (λ p q. is_lt (rank_by s p q))
rank_order s = ranks_by (rank_total (nodes_in s.rows)) (λ (p : Ranked). p.node)

-- each before all that follow
strictly_sorted : {X : Type 0} (cmp : X → X → Ordering) (xs : List X) → ((i j : ℕ) (d : X) → i < j → j < length xs → cmp (slice_index_or xs i d) (slice_index_or xs j d) ≡ Less) → IsStrictlySortedBy cmp xs
unfolding IsStrictlySortedBy
strictly_sorted cmp [] pairs = tt
strictly_sorted {X} cmp (x ∷ xs) pairs = (each xs (λ j d h. pairs zero (suc j) d (omega arith) (omega arith)), strictly_sorted cmp xs (λ i j d l h. pairs (suc i) (suc j) d (omega arith) (omega arith)))
  where
    each : (ys : List X) → ((j : ℕ) (d : X) → j < length ys → cmp x (slice_index_or ys j d) ≡ Less) → AllByRecursion (λ y. cmp x y ≡ Less) ys
    each [] h = tt
    each (y ∷ ys) h = (h zero y (omega arith), each ys (λ j d low. h (suc j) d (omega arith)))

-- and so are their nodes
sorted_nodes : (cmp : ℕ → ℕ → Ordering) (ps : List Ranked) → IsStrictlySortedBy (λ p q. cmp p.node q.node) ps → IsStrictlySortedBy cmp (nodes_of ps)
unfolding IsStrictlySortedBy
sorted_nodes cmp [] h = tt
sorted_nodes cmp (p ∷ ps) h = (each ps h.0, sorted_nodes cmp ps h.1)
  where
    each : (qs : List Ranked) → AllByRecursion (λ q. cmp p.node q.node ≡ Less) qs → AllByRecursion (λ y. cmp p.node y ≡ Less) (nodes_of qs)
    each [] g = tt
    each (q ∷ qs) g = (g.0, each qs g.1)

-- **Nodes are ranked as they are ordered in a network of which the dates are kept.**
pub rank_is : (net : Net) (s : State) → IsDatedBy net s → (x y : ℕ) → IsLive (forest s) x → IsLive (forest s) y → rank_cmp s x y ≡ node_cmp net (forest s) x y
rank_is net s dated x y live_x live_y = rank_of_nodes (nodes_in s.rows) x y (there x live_x) (there y live_y) ∙ dated_cmp net s dated x y live_x live_y
  where
    there : (z : ℕ) → IsLive (forest s) z → IsSome (nodes_in s.rows z)
    there z live = let (n, at) = node_if_live (nodes_in s.rows) z live in some_is (nodes_in s.rows z) n at

module _ (net : Net) (s : State) (list : HasList net (forest s)) (dated : IsDatedBy net s) where
  -- what is not before, and is another node, is after
  after : (x y : ℕ) → IsLive (forest s) x → IsLive (forest s) y → (node_cmp net (forest s) y x ≡ Less → ⊥) → (x ≡ y → ⊥) → node_cmp net (forest s) x y ≡ Less
  after x y live_x live_y up other = law.antisymm (Node x) (Node y) (list, live_x) (list, live_y) ∙ by (node_cmp net (forest s) y x) refl
    where
      law : IsOrderOn (IsThere net (forest s)) (spot_cmp net (forest s))
      law = ordered net (forest s)

      by : (r : Ordering) → node_cmp net (forest s) y x ≡ r → ordering_reverse r ≡ Less
      by Less e = absurd (up e)
      by Greater e = refl
      by Equal e = let same : Node y ≡ Node x = law.strict (Node y) (Node x) (list, live_y) (list, live_x) e in absurd (other cc)

  -- a node that is before another is sorted before it
  rank_before : (x y : ℕ) → IsLive (forest s) x → IsLive (forest s) y → node_cmp net (forest s) x y ≡ Less → rank_cmp s x y ≡ Less
  rank_before x y live_x live_y e = rank_is net s dated x y live_x live_y ∙ e

  -- **Sorted nodes are in order.**
  pub in_order : (ps : List Ranked) → All (IsRanked net (forest s)) ps → IsDistinct nat_eq (nodes_of ps) → IsSortedBy (λ p q. is_lt (rank_by s p q)) ps → IsStrictlySortedBy (node_cmp net (forest s)) (nodes_of ps)
  in_order ps ranked once up =
      sorted_nodes (node_cmp net (forest s)) ps
      (strictly_sorted (λ p q. node_cmp net (forest s) p.node q.node) ps
      (λ i j d l h.
      (let p = slice_index_or ps i d in
      let q = slice_index_or ps j d in
      let is_p = All-contains (IsRanked net (forest s)) ps p ranked (Contains-get_or ps i d (omega arith)) in
      let is_q = All-contains (IsRanked net (forest s)) ps q ranked (Contains-get_or ps j d h) in
      after p.node q.node is_p.live is_q.live
      (λ e. (let t : is_lt (rank_by s q p) ≡ true = ap is_lt (rank_before q.node p.node is_q.live is_p.live e) in
      let g = sorted_far (λ p q. is_lt (rank_by s p q)) (rank_order s) ps up i j d (omega arith) h in cc))
      (apart i j d l h))))
    where
      apart : (i j : ℕ) (d : Ranked) → i < j → j < length ps → (slice_index_or ps i d).node ≡ (slice_index_or ps j d).node → ⊥
      apart i j d l h same =
          let p = (slice_index_or ps i d).node in
          let q = (slice_index_or ps j d).node in
          let t : nat_eq p q ≡ true = (Decides-eqb p q).1 same in
          let g : nat_eq p q ≡ false =
          (λ k. nat_eq (sym (get_or-map (λ (r : Ranked). r.node) ps i d d.node (omega arith)) k) (sym (get_or-map (λ (r : Ranked). r.node) ps j d d.node h) k))
          ∙ apart_from_distinct nat_eq (nodes_of ps) i j d.node once l (subst (λ n. j < n) (sym (length-map ps (λ (r : Ranked). r.node))) h) in
          cc

-- nodes in order are moments in order
pub moments_in_order : (s : Standing) (net : Net) (f : Forest) → IsForestOf s net f → (nodes : List ℕ) → All (IsLive f) nodes → IsStrictlySortedBy (node_cmp net f) nodes → IsStrictlySortedBy (maps.order (built s)) (map (moment_at f) nodes)
unfolding IsStrictlySortedBy
moments_in_order s net f seen [] live up = tt
moments_in_order s net f seen (x ∷ nodes) live up = (each nodes (All-tail (IsLive f) x nodes live) up.0, moments_in_order s net f seen nodes (All-tail (IsLive f) x nodes live) up.1)
  where
    each : (ys : List ℕ) → All (IsLive f) ys → AllByRecursion (λ y. node_cmp net f x y ≡ Less) ys → AllByRecursion (λ k. maps.order (built s) (moment_at f x) k ≡ Less) (map (moment_at f) ys)
    each [] alive h = tt
    each (y ∷ ys) alive h = (sym (order_is s net f seen x y (All-head (IsLive f) x nodes live) (All-head (IsLive f) y ys alive)) ∙ h.0, each ys (All-tail (IsLive f) y ys alive) h.1)
