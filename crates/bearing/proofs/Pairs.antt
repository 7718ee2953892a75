-- Pairs of points that moved, put into a set.
use Rattle.std.proofs.Common.{◌≡◌, ◌≢◌, ◌∙◌, ℕ, Bool, true, false, not, ◌&&◌, ◌==◌, ◌+◌, ◌*◌, ◌<◌, List, length, get_or, set, Option, Some, None, refl, sym, ap, subst, inl, inr, ◌⊎◌, arith}
use Rattle.std.proofs.lemmas.Bool.{cases_order, not-true}
use Rattle.std.proofs.lemmas.Bool.Decides.{eqb_tells, Decides-int_eq}
use Rattle.std.proofs.lemmas.List.{get_or-set_same, get_or-set_other, get_or_default, length-set}
use Rattle.std.specs.Prelude.{IsSome, slice_index_or}
use Rattle.std.specs.Option.{option_map_or}
use Rattle.std.specs.Cmp.{both_ways}
use Rattle.std.specs.List.{All, Contains}
use Rattle.tmm_model.specs.declared.bound.Bound.{Bound}
use Rattle.tmm_model.specs.declared.bound.Bound.TheVariants.{Finite, Free}
use Rattle.tmm_model.specs.declared.point.PointName.{PointName}
use Rattle.belief_theory.specs.Touched.{same_bound}
use Rattle.dist_net.specs.Net.{Nets, IsInUse, IsMovedAt}
use Rattle.net_theory.specs.Represents.{Names}
use Rattle.spots.specs.Spots.{net_far}
use Rattle.list_theory.proofs.Elements.{both}
use Rattle.joined.proofs.Deciding.{not_both}
use Rattle.bearing.specs.Fast.{IsInBoth}
use Rattle.bearing.specs.MovedPairs.{is_of_premise, is_kept, WereThere, is_moved_among, PutsPairs}
use Rattle.bearing.specs.PointSets.{is_in, has_pair, AreThosePairs, HaveOneOf}

module _ (moves : ℕ → ℕ → Bool) where
  pub pairs_none : (P : ℕ → ℕ → Type 0) (s : List Bool) → ((a b : ℕ) → a < 256 → b < 256 → P a b → moves a b ≡ true → ⊥) → PutsPairs moves P s s
  pairs_none P s none = record { own = λ a b la lb is. inl is; kept = λ a b la lb is. is; all = λ a b la lb p is. absurd (none a b la lb p is); places = refl }

  pub pairs_both : (P Q R : ℕ → ℕ → Type 0) (old mid new : List Bool) → ((a b : ℕ) → a < 256 → b < 256 → R a b → P a b ⊎ Q a b)
      → PutsPairs moves P old mid → PutsPairs moves Q mid new → PutsPairs moves R old new
  pairs_both P Q R old mid new apart first then_ = record {
    own = λ a b la lb is. elim (then_.own a b la lb is) [ inl was ↦ first.own a b la lb was | inr moved ↦ inr moved ];
    kept = λ a b la lb is. then_.kept a b la lb (first.kept a b la lb is);
    all = λ a b la lb r moved. elim (apart a b la lb r) [ inl here ↦ then_.kept a b la lb (first.all a b la lb here moved) | inr here ↦ then_.all a b la lb here moved ];
    places = then_.places ∙ first.places;
  }

  pub pairs_one : (s : List Bool) (a b : ℕ) → a < 256 → b < 256 → length s ≡ 65536 → moves a b ≡ true → PutsPairs moves (λ c d. (c ≡ a) × (d ≡ b)) s (set s (a * 256 + b) true)
  pairs_one s a b la lb places moved = record { own = own; kept = kept; all = λ c d lc ld same _. here c d same; places = length-set s (a * 256 + b) true }
    where
      apart : (c d : ℕ) → d < 256 → (c * 256 + d) ≡ (a * 256 + b) → (c ≡ a) × (d ≡ b)
      apart c d ld same = (omega (arith, same, ld, lb), omega (arith, same, ld, lb))

      here : (c d : ℕ) → (c ≡ a) × (d ≡ b) → has_pair (set s (a * 256 + b) true) c d ≡ true
      here c d same =
          let one : (c * 256 + d) ≡ (a * 256 + b) = λ i. same.0 i * 256 + same.1 i in
          subst (λ k. is_in (set s (a * 256 + b) true) k ≡ true) (sym one) (get_or-set_same s (a * 256 + b) true false (let less : (a * 256 + b) < length s = omega (arith, la, lb, places) in less))

      own : (c d : ℕ) → c < 256 → d < 256 → has_pair (set s (a * 256 + b) true) c d ≡ true → (has_pair s c d ≡ true) ⊎ (moves c d ≡ true)
      own c d lc ld is = elim (eqb_tells (c * 256 + d) (a * 256 + b)) [
        | inl same ↦ inr (let e = apart c d ld same.1 in subst (λ k. moves k d ≡ true) (sym e.0) (subst (λ k. moves a k ≡ true) (sym e.1) moved))
        | inr other ↦ inl (sym (get_or-set_other s (a * 256 + b) (c * 256 + d) true false other.1) ∙ is)
      ]

      kept : (c d : ℕ) → c < 256 → d < 256 → has_pair s c d ≡ true → has_pair (set s (a * 256 + b) true) c d ≡ true
      kept c d lc ld is = elim (eqb_tells (c * 256 + d) (a * 256 + b)) [
        | inl same ↦ here c d (apart c d ld same.1)
        | inr other ↦ get_or-set_other s (a * 256 + b) (c * 256 + d) true false other.1 ∙ is
      ]

-- ---- what it says that a pair moved

module _ (nets : Nets) (among : ℕ → Bool) where
  pub record Moved (a b : ℕ) : Type 0 where
    pub apart : (a == b) ≡ false
    pub from : among a ≡ true
    pub to : among b ≡ true
    pub far : same_bound (net_far nets.committed a b) (net_far nets.present a b) ≡ false

  pub moved_parts : (a b : ℕ) → is_moved_among nets among a b ≡ true → Moved a b
  moved_parts a b is =
      let first = both (not (a == b)) (among a && (among b && not (same_bound (net_far nets.committed a b) (net_far nets.present a b)))) is in
      let second = both (among a) (among b && not (same_bound (net_far nets.committed a b) (net_far nets.present a b))) first.1 in
      let third = both (among b) (not (same_bound (net_far nets.committed a b) (net_far nets.present a b))) second.1 in
      record { apart = not-true (a == b) first.0; from = second.0; to = third.0; far = not-true (same_bound (net_far nets.committed a b) (net_far nets.present a b)) third.1 }

  -- none did of a point that is not among these
  pub none_of_other : (P : ℕ → ℕ → Type 0) (p : ℕ) (s : List Bool) → among p ≡ false → ((a b : ℕ) → P a b → (a ≡ p) ⊎ (b ≡ p)) → PutsPairs (is_moved_among nets among) P s s
  none_of_other P p s out of = pairs_none (is_moved_among nets among) P s (λ a b la lb is moved. elim (of a b is) [
    | inl same ↦ not_both (among p) (subst (λ k. among k ≡ true) same (moved_parts a b moved).from) out
    | inr same ↦ not_both (among p) (subst (λ k. among k ≡ true) same (moved_parts a b moved).to) out
  ])

  -- ---- what is found for a pair

  pub not_of_one : (a b : ℕ) → a ≡ b → is_moved_among nets among a b ≡ false
  not_of_one a b same = elim (eqb_tells a b) [
    | inl one ↦ ap (λ v. not v && (among a && (among b && not (same_bound (net_far nets.committed a b) (net_far nets.present a b))))) one.0
    | inr other ↦ absurd (other.1 same)
  ]

  pub moved_by_far : (a b : ℕ) → a ≢ b → among a ≡ true → among b ≡ true
      → is_moved_among nets among a b ≡ not (same_bound (net_far nets.committed a b) (net_far nets.present a b))
  moved_by_far a b other from to = elim (eqb_tells a b) [
    | inl one ↦ absurd (other one.1)
    | inr two ↦ (λ i. not (two.0 i) && (from i && (to i && not (same_bound (net_far nets.committed a b) (net_far nets.present a b)))))
  ]

-- a number that is kept is that of a point
kept_point : (added : Option (List ℕ)) (o : Option PointName) → option_map_or (λ point. not (is_of_premise added point)) o false ≡ true → IsSome o
kept_point added (Some point) is = refl
kept_point added None is = cc

pub kept_in_use : (names : Names) (added : Option (List ℕ)) (n : ℕ) → is_kept names added n ≡ true → IsInUse names n
kept_in_use names added n is = kept_point added (slice_index_or names n None) is

-- each point that was there, now and at the last commit
pub kept_in_both : (nets : Nets) (added : Option (List ℕ)) → WereThere nets added → (p : ℕ) → is_kept nets.present.names added p ≡ true → IsInBoth nets p
kept_in_both nets added were p stays = (were p stays, kept_in_use nets.present.names added p stays)

-- ---- bounds

pub same_bound_is : (x y : Bound) → same_bound x y ≡ true → x ≡ y
same_bound_is (Finite x) (Finite y) e = ap Finite ((Decides-int_eq x y).0 e)
same_bound_is (Finite x) Free e = cc
same_bound_is Free (Finite y) e = cc
same_bound_is Free Free e = refl

bound_itself : (x : Bound) → same_bound x x ≡ true
bound_itself (Finite x) = (Decides-int_eq x x).1 refl
bound_itself Free = refl

pub bounds_differ : (x y : Bound) → same_bound x y ≡ false → x ≢ y
bounds_differ x y differ same = let both : true ≡ false = sym (bound_itself x) ∙ ap (same_bound x) same ∙ differ in cc

-- ---- the pairs of one point

-- of a point and one of the numbers below n
abbrev pub OfPoint : ℕ → ℕ → ℕ → ℕ → Type 0
OfPoint p n a b = ((a ≡ p) × (b < n)) ⊎ ((b ≡ p) × (a < n))

-- the pairs of two points
abbrev pub OfBoth : ℕ → ℕ → ℕ → ℕ → Type 0
OfBoth p q a b = ((a ≡ p) × (b ≡ q)) ⊎ ((a ≡ q) × (b ≡ p))

module _ (moves : ℕ → ℕ → Bool) (p : ℕ) where
  pub point_none : (s : List Bool) → PutsPairs moves (OfPoint p 0) s s
  point_none s = pairs_none moves (OfPoint p 0) s (λ a b la lb of moved. elim of [ inl first ↦ (let no = first.1 in omega (arith, no)) | inr second ↦ (let no = second.1 in omega (arith, no)) ])

  pub point_next : (n : ℕ) (old mid new : List Bool) → PutsPairs moves (OfPoint p n) old mid → PutsPairs moves (OfBoth p n) mid new → PutsPairs moves (OfPoint p (n + 1)) old new
  point_next n old mid new = pairs_both moves (OfPoint p n) (OfBoth p n) (OfPoint p (n + 1)) old mid new
      (λ a b la lb of. elim of [
        | inl from ↦ elim (last b n from.1) [ inl same ↦ inr (inl (from.0, same)) | inr below ↦ inl (inl (from.0, below)) ]
        | inr to ↦ elim (last a n to.1) [ inl same ↦ inr (inr (same, to.0)) | inr below ↦ inl (inr (to.0, below)) ]
      ])
    where
      last : (k n : ℕ) → k < n + 1 → (k ≡ n) ⊎ (k < n)
      last k n less = elim (cases_order k n) [
        | inl same ↦ inl same
        | inr other ↦ elim other [ inl below ↦ inr below | inr above ↦ absurd (omega (arith, less, above)) ]
      ]

  pub point_all : (n : ℕ) (old new : List Bool) → n ≡ 256 → PutsPairs moves (OfPoint p n) old new → PutsPairs moves (λ a b. (a ≡ p) ⊎ (b ≡ p)) old new
  point_all n old new whole puts = record {
    own = puts.own;
    kept = puts.kept;
    all = λ a b la lb h moved. puts.all a b la lb (elim h [ inl is ↦ inl (is, omega (arith, lb, whole)) | inr is ↦ inr (is, omega (arith, la, whole)) ]) moved;
    places = puts.places;
  }

-- ---- the listed points, one after the other

-- some of the first of the listed points is one of the pair
abbrev pub HasFirst : List ℕ → ℕ → ℕ → ℕ → Type 0
HasFirst listed n a b = (k : ℕ) × (k < n) × ((get_or listed k 0 ≡ a) ⊎ (get_or listed k 0 ≡ b))

module _ (moves : ℕ → ℕ → Bool) (listed : List ℕ) where
  pub listed_none : (s : List Bool) → PutsPairs moves (HasFirst listed 0) s s
  listed_none s = pairs_none moves (HasFirst listed 0) s (λ a b la lb of moved. (let no = of.1 in omega (arith, no)))

  pub listed_next : (n p : ℕ) (old mid new : List Bool) → p ≡ get_or listed n 0 → PutsPairs moves (HasFirst listed n) old mid
      → PutsPairs moves (λ a b. (a ≡ p) ⊎ (b ≡ p)) mid new → PutsPairs moves (HasFirst listed (n + 1)) old new
  listed_next n p old mid new is = pairs_both moves (HasFirst listed n) (λ a b. (a ≡ p) ⊎ (b ≡ p)) (HasFirst listed (n + 1)) old mid new
      (λ a b la lb (k, less, at). elim (cases_order k n) [
        | inl same ↦ inr (
            let here : get_or listed k 0 ≡ p = ap (λ j. get_or listed j 0) same ∙ sym is in
            elim at [ inl one ↦ inl (sym one ∙ here) | inr two ↦ inr (sym two ∙ here) ])
        | inr other ↦ elim other [ inl below ↦ inl (k, below, at) | inr above ↦ absurd (omega (arith, less, above)) ]
      ])

-- ---- at the end

module _ (nets : Nets) (among : ℕ → Bool) (have : (p : ℕ) → among p ≡ true → IsInBoth nets p) (moved_at : IsMovedAt nets.moved nets.committed nets.present) where
  -- each pair that moved has one of the points that are listed
  pub one_listed : (a b : ℕ) → is_moved_among nets among a b ≡ true → Contains nets.moved a ⊎ Contains nets.moved b
  one_listed a b is =
      let m = moved_parts nets among a b is in
      elim (moved_at a b (have a m.from).0 (have b m.to).0 (have a m.from).1 (have b m.to).1) [
        | inl same ↦ absurd (bounds_differ (net_far nets.committed a b) (net_far nets.present a b) m.far same)
        | inr listed ↦ listed
      ]

  -- none did where none of the listed points is among these
  pub none_listed : ((p : ℕ) → Contains nets.moved p → among p ≡ false) → (a b : ℕ) → is_moved_among nets among a b ≡ true → ⊥
  none_listed out a b is =
      let m = moved_parts nets among a b is in
      elim (one_listed a b is) [ inl on ↦ not_both (among a) m.from (out a on) | inr on ↦ not_both (among b) m.to (out b on) ]

  at_place : (a k : ℕ) → k < length nets.moved → get_or nets.moved k a ≡ a → get_or nets.moved k 0 ≡ a
  at_place a k less is = get_or_default nets.moved k 0 a less ∙ is

  pub all_listed : (a b : ℕ) → is_moved_among nets among a b ≡ true → HasFirst nets.moved (length nets.moved) a b
  all_listed a b is = elim (one_listed a b is) [
    | inl (k, less, at) ↦ (k, less, inl (at_place a k less at))
    | inr (k, less, at) ↦ (k, less, inr (at_place b k less at))
  ]

  pub are_moved : (pairs start : List Bool) → ((p : ℕ) → is_in start p ≡ false) → length start ≡ 65536 → PutsPairs (is_moved_among nets among) (HasFirst nets.moved (length nets.moved)) start pairs
      → AreThosePairs (is_moved_among nets among) pairs
  are_moved pairs start none places puts = record {
    each = λ a b la lb. both_ways (has_pair pairs a b) (is_moved_among nets among a b)
        (λ is. elim (puts.own a b la lb is) [ inl was ↦ absurd (let both : true ≡ false = sym was ∙ none (a * 256 + b) in cc) | inr moved ↦ moved ])
        (λ is. puts.all a b la lb (all_listed a b is) is);
    places = puts.places ∙ places;
  }

  pub have_listed : (pairs : List Bool) → All (λ p. p < 256) nets.moved → AreThosePairs (is_moved_among nets among) pairs → HaveOneOf nets.moved pairs
  have_listed pairs below are = record { below = below; each = λ a b la lb is. one_listed a b (sym (are.each a b la lb) ∙ is) }
