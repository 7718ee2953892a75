-- **What surely begins behind a node does so as far as one node tells**: the last that the ways to
-- both share, or the root of what begins behind. And what one tells is so.
use Rattle.std.proofs.Common.{◌≡◌, ◌≢◌, ◌∙◌, ℕ, Bool, true, false, inl, inr, List, [], ◌∷◌, ◌++◌, refl, sym, ap, subst, arith}
use Rattle.std.specs.Prelude.{◌⊎◌, ℤ, pos, negsuc, ◌+ℤ◌, ◌-ℤ◌, ◌≤ℤ◌, int_le, Option, Some}
use Rattle.std.specs.List.{All, Contains}
use Rattle.std.specs.Option.{option_map_or}
use Rattle.std.specs.Cmp.Lexicographic.{bytes_decides}
use Rattle.std.proofs.lemmas.Bool.{cases_eq}
use Rattle.std.proofs.lemmas.Int.{ints}
use Rattle.tmm_model.specs.declared.bound.Bound.{Bound}
use Rattle.tmm_model.specs.declared.bound.Bound.TheVariants.{Finite, Free}
use Rattle.tmm_model.specs.declared.point.PointName.TheVariants.{Begin}
use Rattle.tmm_model.specs.Bounds.{bound_plus, bound_less, bound_at_most}
use Rattle.tmm_model.specs.Moments.{rule_of}
use Rattle.tmm_model.specs.Points.{same_name}
use Rattle.tmm_model.specs.Standing.{Standing}
use Rattle.tmm_model.specs.Types.{IsTighter}
use Rattle.dist_net.specs.Net.{Net}
use Rattle.net_theory.specs.Represents.{IsNumberOf}
use Rattle.spots.specs.declared.link.Link.{Link}
use Rattle.spots.specs.declared.spot.Spot.TheVariants.{Node}
use Rattle.spots.specs.Forest.{Forest, Member, member, IsLive}
use Rattle.spots.specs.OfLists.{HasList, IsLinkOf}
use Rattle.spots.specs.Spots.{base_of, links_of, links_low, links_high, links_apart, net_far, spot_distance, node_early}
use Rattle.spots.proofs.Apart.{apart_from_none, apart_to_none, apart_same, apart_differ}
use Rattle.spots.proofs.Delays.{low-append}
use Rattle.spots.proofs.Distances.{one_root, distance-one_base, distance-two_bases}
use Rattle.spots.proofs.Laws as laws
use Rattle.std.proofs.lemmas.List.Elements.{All-head, All-tail}
use Rattle.spots.proofs.Nodes.{live_at}
use Rattle.occ_tree.specs.Dated.{point_early}
use Rattle.occ_tree.proofs.KeptDates.{early_from_point}
use Rattle.supports.specs.Under.{IsUnder, IsWay, IsRootOf}
use Rattle.supports.specs.Firsts.{IsBehindBy}

-- ---- rules that both begin with

same_rule : (l : Link) → same_name l.rule l.rule ≡ true
same_rule l = (bytes_decides l.rule l.rule).1 refl

-- back from where more rules lead
apart_back : (front rest : List Link) → links_apart (front ++ rest) front ≡ Finite (pos 0 -ℤ links_low rest)
apart_back [] rest = apart_from_none rest
apart_back (l ∷ front) rest = apart_same l l (front ++ rest) front (same_rule l) ∙ apart_back front rest

-- on to where more rules lead
apart_on : (front rest : List Link) → links_apart front (front ++ rest) ≡ bound_less (links_high rest) (pos 0)
apart_on [] rest = apart_to_none rest
apart_on (l ∷ front) rest = apart_same l l front (front ++ rest) (same_rule l) ∙ apart_on front rest

-- the rules that two lists begin with, and how far apart the others lead
record Parted (u v : List Link) : Type 0 where
  front : List Link
  first : List Link
  second : List Link
  first_is : u ≡ front ++ first
  second_is : v ≡ front ++ second
  apart : links_apart u v ≡ bound_less (links_high second) (links_low first)

module _ (s : Standing) where
  -- a rule of the list has one pair of delays
  one_link : (l k : Link) → IsLinkOf s l → IsLinkOf s k → l.rule ≡ k.rule → l ≡ k
  one_link l k is_l is_k rule =
      let lo : l.lo ≡ k.lo = sym is_l.lo ∙ ap (λ r. (rule_of s r).lo) rule ∙ is_k.lo in
      let hi : l.hi ≡ k.hi = sym is_l.hi ∙ ap (λ r. (rule_of s r).hi) rule ∙ is_k.hi in
      λ i. record { rule = rule i; lo = lo i; hi = hi i }

  part : (u v : List Link) → All (IsLinkOf s) u → All (IsLinkOf s) v → Parted u v
  part [] v all_u all_v = record { front = []; first = []; second = v; first_is = refl; second_is = refl; apart = apart_to_none v }
  part (l ∷ u) [] all_u all_v = record { front = []; first = l ∷ u; second = []; first_is = refl; second_is = refl; apart = apart_from_none (l ∷ u) }
  part (l ∷ u) (k ∷ v) all_u all_v = by (part u v (All-tail (IsLinkOf s) l u all_u) (All-tail (IsLinkOf s) k v all_v)) (same_name l.rule k.rule) refl
    where
      by : Parted u v → (b : Bool) → same_name l.rule k.rule ≡ b → Parted (l ∷ u) (k ∷ v)
      by rest false e = record { front = []; first = l ∷ u; second = k ∷ v; first_is = refl; second_is = refl; apart = apart_differ l k u v e }
      by rest true e =
          let same : l ≡ k = one_link l k (All-head (IsLinkOf s) l u all_u) (All-head (IsLinkOf s) k v all_v) ((bytes_decides l.rule k.rule).0 e) in
          record {
            front = l ∷ rest.front;
            first = rest.first;
            second = rest.second;
            first_is = ap (λ t. l ∷ t) rest.first_is;
            second_is = λ i. sym same i ∷ rest.second_is i;
            apart = apart_same l k u v e ∙ rest.apart;
          }

-- ---- bounds

int_le_from : (a b : ℤ) → a ≤ℤ b → int_le a b ≡ true
int_le_from a b le = grind (arith, ints)

-- the rules to one node are taken off the other side
moved : (high : Bound) (low : ℤ) → bound_at_most (bound_less high low) (negsuc 0) ≡ true → bound_at_most (bound_less high (pos 0)) (low -ℤ pos 1) ≡ true
moved (Finite h) low e = let less : int_le (h -ℤ low) (negsuc 0) ≡ true = e in int_le_from (h -ℤ pos 0) (low -ℤ pos 1) (omega (arith, ints, less))
moved Free low e = cc

-- a bound that is as tight as one that is below zero
below_zero : (all first second : Bound) (x : ℤ) → IsTighter all (bound_plus first second) → first ≡ Finite (pos 0 -ℤ x) → bound_at_most second (x -ℤ pos 1) ≡ true → bound_at_most all (negsuc 0) ≡ true
below_zero all first (Finite v) x t is e = by all (subst (λ b. IsTighter all (bound_plus b (Finite v))) is t)
  where
    by : (all : Bound) → IsTighter all (Finite ((pos 0 -ℤ x) +ℤ v)) → bound_at_most all (negsuc 0) ≡ true
    by (Finite a) le = let less : int_le v (x -ℤ pos 1) ≡ true = e in int_le_from a (negsuc 0) (omega (arith, ints, le, less))
    by Free le = absurd le
below_zero all first Free x t is e = cc

-- the difference of dates that delays follow from one
gap : (ey ez py pz ly lz rest : ℤ) → ey ≡ py +ℤ ly → ez ≡ pz +ℤ lz → pz ≡ py → ly ≡ lz +ℤ rest → ey -ℤ ez ≡ rest
gap ey ez py pz ly lz rest y z p l = omega (arith, ints, y, z, p, l)

module _ (net : Net) (f : Forest) (list : HasList net f) where
  base_at : (x : ℕ) (m : Member) → member f x ≡ Some m → base_of f (Node x) ≡ m.begin
  base_at x m at = ap (λ (o : Option Member). option_map_or (λ k. k.begin) o 0) at

  links_at : (x : ℕ) (m : Member) → member f x ≡ Some m → links_of f (Node x) ≡ m.links
  links_at x m at = ap (λ (o : Option Member). option_map_or (λ k. k.links) o []) at

  -- nodes of one root begin at one point
  one_point : (x y : ℕ) (m n : Member) → member f x ≡ Some m → member f y ≡ Some n → m.root ≡ n.root → m.begin ≡ n.begin
  one_point x y m n m_at n_at root =
      let (s, seen) = list in
      let second = subst (λ (r : List ℕ). IsNumberOf net.names n.begin (Begin r)) (sym root) (seen.members y n n_at).begin in
      seen.network.distinct m.begin n.begin (Begin m.root) (seen.members x m m_at).begin second

  -- the distance of nodes of one root is that of their rules
  far_in_root : (x y : ℕ) (m n : Member) → member f x ≡ Some m → member f y ≡ Some n → m.root ≡ n.root → spot_distance net f (Node x) (Node y) ≡ links_apart m.links n.links
  far_in_root x y m n m_at n_at root =
      distance-one_base net f (Node x) (Node y) (base_at x m m_at ∙ one_point x y m n m_at n_at root ∙ sym (base_at y n n_at))
      ∙ (λ i. links_apart (links_at x m m_at i) (links_at y n n_at i))

  -- a node begins later than one above it by the delays between them
  date_under : (z y : ℕ) (u : IsUnder f z y) → node_early net f y -ℤ node_early net f z ≡ links_low u.rest
  date_under z y u =
      gap (node_early net f y) (node_early net f z) (point_early net u.below.begin) (point_early net u.above.begin) (links_low u.below.links) (links_low u.above.links) (links_low u.rest)
      (early_from_point net f list y u.below u.below_at) (early_from_point net f list z u.above u.above_at)
      (ap (point_early net) (one_point z y u.above u.below u.above_at u.below_at u.root)) (ap links_low u.links ∙ low-append u.above.links u.rest)

  -- back from a node to one above it
  far_back : (z y : ℕ) (u : IsUnder f z y) → spot_distance net f (Node y) (Node z) ≡ Finite (pos 0 -ℤ links_low u.rest)
  far_back z y u =
      far_in_root y z u.below u.above u.below_at u.above_at (sym u.root)
      ∙ ap (λ l. links_apart l u.above.links) u.links ∙ apart_back u.above.links u.rest

  -- **What begins behind a node as far as one tells surely does.**
  pub surely : (z x y : ℕ) → IsLive f x → IsBehindBy net f z x y → bound_at_most (spot_distance net f (Node y) (Node x)) (negsuc 0) ≡ true
  surely z x y live by =
      let u = by.under in
      below_zero (spot_distance net f (Node y) (Node x)) (spot_distance net f (Node y) (Node z)) (spot_distance net f (Node z) (Node x)) (links_low u.rest)
      (laws.triangle net f (Node y) (Node z) (Node x) (list, live_at f y u.below u.below_at) (list, live_at f z u.above u.above_at) (list, live))
      (far_back z y u)
      (subst (λ w. bound_at_most (spot_distance net f (Node z) (Node x)) (w -ℤ pos 1) ≡ true) (date_under z y u) by.behind)

  -- where a node above y is that far from x
  behind_by : (z x y : ℕ) (u : IsUnder f z y) (high : Bound) → spot_distance net f (Node z) (Node x) ≡ bound_less high (pos 0) → spot_distance net f (Node y) (Node x) ≡ bound_less high (links_low u.rest)
      → bound_at_most (spot_distance net f (Node y) (Node x)) (negsuc 0) ≡ true → IsBehindBy net f z x y
  behind_by z x y u high on whole sure = record {
    under = u;
    behind = (λ i. bound_at_most (on i) (date_under z y u i -ℤ pos 1)) ∙ moved high (links_low u.rest) (ap (λ b. bound_at_most b (negsuc 0)) (sym whole) ∙ sure);
  }

  module _ (x y : ℕ) (m n : Member) (m_at : member f x ≡ Some m) (n_at : member f y ≡ Some n) (sure : bound_at_most (spot_distance net f (Node y) (Node x)) (negsuc 0) ≡ true) where
    -- in one root the last node that the ways to both share tells it
    shared_tells : m.root ≡ n.root → (nodes : List ℕ) → IsWay f x nodes → (z : ℕ) × Contains nodes z × IsBehindBy net f z x y
    shared_tells root nodes way =
        let (s, seen) = list in
        let p = part s n.links m.links (seen.members y n n_at).links (seen.members x m m_at).links in
        let h = way.all m p.front p.second m_at p.second_is in
        let u : IsUnder f h.node y = record {
          above = h.m;
          below = n;
          above_at = h.at;
          below_at = n_at;
          root = h.root_is ∙ root;
          rest = p.first;
          links = p.first_is ∙ ap (λ l. l ++ p.first) (sym h.links_are);
        } in (
          h.node,
          h.among,
          behind_by h.node x y u (links_high p.second)
              (far_in_root h.node x h.m m h.at m_at h.root_is ∙ (λ i. links_apart (h.links_are i) (p.second_is i)) ∙ apart_on p.front p.second)
              (far_in_root y x n m n_at m_at (sym root) ∙ p.apart) sure,
        )

    -- else the root does
    root_tells : m.begin ≢ n.begin → (z : ℕ) → IsRootOf f z y → IsBehindBy net f z x y
    root_tells apart z root =
        let u = root.under in
        let same : Some u.below ≡ Some n = sym u.below_at ∙ n_at in
        let one : u.below ≡ n = cc in
        let point : u.above.begin ≡ n.begin = one_point z y u.above u.below u.above_at u.below_at u.root ∙ ap (λ k. k.begin) one in
        let rest : n.links ≡ u.rest = ap (λ k. k.links) (sym one) ∙ u.links ∙ ap (λ l. l ++ u.rest) root.none in
        let two_z : base_of f (Node z) ≢ base_of f (Node x) = λ e. apart (sym (base_at x m m_at) ∙ sym e ∙ base_at z u.above u.above_at ∙ point) in
        let two_y : base_of f (Node y) ≢ base_of f (Node x) = λ e. apart (sym (base_at x m m_at) ∙ sym e ∙ base_at y n n_at) in
        behind_by z x y u (bound_plus (net_far net n.begin m.begin) (links_high m.links))
        (distance-two_bases net f (Node z) (Node x) two_z
        ∙ (λ i. bound_less (bound_plus (net_far net ((base_at z u.above u.above_at ∙ point) i) (base_at x m m_at i)) (links_high (links_at x m m_at i))) (links_low ((links_at z u.above u.above_at ∙ root.none) i))))
        (distance-two_bases net f (Node y) (Node x) two_y
        ∙ (λ i. bound_less (bound_plus (net_far net (base_at y n n_at i) (base_at x m m_at i)) (links_high (links_at x m m_at i))) (links_low ((links_at y n n_at ∙ rest) i))))
        sure

    -- one of them tells it
    pub one_tells : (nodes : List ℕ) → IsWay f x nodes → (r : ℕ) → IsRootOf f r y → ((z : ℕ) × Contains nodes z × IsBehindBy net f z x y) ⊎ IsBehindBy net f r x y
    one_tells nodes way r root = elim (cases_eq m.begin n.begin) [
      | inl same ↦ inl (shared_tells (one_root net f list x y m n m_at n_at same) nodes way)
      | inr differ ↦ inr (root_tells differ r root)
    ]
