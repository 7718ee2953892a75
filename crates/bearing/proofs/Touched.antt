-- Events at which a rule depends on points that moved.
use Rattle.std.proofs.Common.{◌≡◌, ◌∙◌, ℕ, Bool, true, false, ◌&&◌, ◌||◌, ◌<◌, ◌≤◌, List, length, Option, Some, None, refl, sym, ap, subst, inl, inr, ◌⊎◌, arith}
use Rattle.std.proofs.lemmas.Bool.{cases_order, or_cases, or_left, or_right}
use Rattle.std.proofs.lemmas.List.{get_or_past}
use Rattle.std.specs.Prelude.{◌↔◌, ℤ}
use Rattle.std.specs.Option.{option_map_or}
use Rattle.tmm_model.specs.declared.bound.Bound.{Bound}
use Rattle.tmm_model.specs.declared.bound.Bound.TheVariants.{Finite, Free}
use Rattle.list_theory.proofs.Elements.{both}
use Rattle.spots.specs.declared.spot.Spot.{Spot}
use Rattle.spots.specs.declared.spot.Spot.TheVariants.{Node}
use Rattle.spots.specs.Forest.{Forest, Member, member}
use Rattle.spots.specs.Spots.{base_of, links_of, links_high}
use Rattle.occ_tree.specs.Standing.{State, forest}
use Rattle.joined.specs.Shifting.{MovesAmong}
use Rattle.bearing.specs.declared.events.Events.{Events}
use Rattle.bearing.specs.declared.events.Events.TheVariants.{DueBetween, BeginAt}
use Rattle.bearing.specs.declared.points_of_class.Reach.{Reach}
use Rattle.bearing.specs.Events.{is_number, is_event_of}
use Rattle.bearing.specs.PointSets.{is_in, has_pair, PutsIn, AreThose, Meet}
use Rattle.bearing.specs.Reach.{IsBaseOf, IsBoundedBaseOf, AreBelow256}
use Rattle.bearing.specs.Touching.{LeadsInto, IsLedToFrom, TouchAll, IsTouchedAt}
use Rattle.bearing.proofs.Sets.{puts_both, puts_into_none}

-- what is in a set is below its length
pub below_length : (s : List Bool) (p : ℕ) → is_in s p ≡ true → length s ≡ 256 → p < 256
below_length s p is places = elim (cases_order p 256) [
  | inl same ↦ absurd (beyond (omega (arith, same, places)))
  | inr other ↦ elim other [ inl below ↦ below | inr above ↦ absurd (beyond (omega (arith, above, places))) ]
]
  where
    beyond : length s ≤ p → ⊥
    beyond past = let both : true ≡ false = sym is ∙ get_or_past s p false past in cc

number_of : (b : Bound) → is_number b ≡ true → (most : ℤ) × (b ≡ Finite most)
number_of (Finite x) is = (x, refl)
number_of Free is = cc

module _ (s : State) (are : Spot → Type 0) (pairs : List Bool) (reach : Reach)
    (itself : (a : ℕ) → a < 256 → has_pair pairs a a ≡ false)
    (all_are : AreThose (IsBaseOf (forest s) are) reach.all.items)
    (bounded_are : AreThose (IsBoundedBaseOf (forest s) are) reach.bounded.items)
    (below : AreBelow256 (forest s)) (x : ℕ) where
  abbrev f : Forest
  f = forest s

  abbrev here : ℕ
  here = base_of f (Node x)

  here_below : here < 256
  here_below = by (member f x) refl
    where
      by : (o : Option Member) → member f x ≡ o → option_map_or (λ m. m.begin) (member f x) 0 < 256
      by None is = subst (λ o. option_map_or (λ (m : Member). m.begin) o 0 < 256) (sym is) (omega arith)
      by (Some m) is = subst (λ o. option_map_or (λ (m : Member). m.begin) o 0 < 256) (sym is) (below.begin x m is)

  pair_moved : (p q : ℕ) → has_pair pairs p q ≡ true → (from to : Spot) → base_of f from ≡ p → base_of f to ≡ q → has_pair pairs (base_of f from) (base_of f to) ≡ true
  pair_moved p q is from to from_is to_is = (λ i. has_pair pairs (from_is i) (to_is i)) ∙ is

  -- ---- what moves at a touched event

  by_all : TouchAll pairs reach → MovesAmong (has_pair pairs) f are x
  by_all (p, in_all, (q, lq, (lp, in_bounded, pair))) =
      let (from, from_is, from_at) = all_are.own p in_all in
      let (to, to_is, to_at, most, in_time) = bounded_are.own q in_bounded in
      record { from = from; to = to; from_is = inl from_is; to_is = inl to_is; most = most; bounded = in_time; moved = pair_moved p q pair from to from_at to_at }

  by_into : LeadsInto pairs reach.bounded.items here → MovesAmong (has_pair pairs) f are x
  by_into (q, lq, (lp, in_bounded, pair)) =
      let (to, to_is, to_at, most, in_time) = bounded_are.own q in_bounded in
      record { from = Node x; to = to; from_is = inr refl; to_is = inl to_is; most = most; bounded = in_time; moved = pair_moved here q pair (Node x) to refl to_at }

  by_from : (most : ℤ) → links_high (links_of f (Node x)) ≡ Finite most → IsLedToFrom pairs reach.all.items here → MovesAmong (has_pair pairs) f are x
  by_from most in_time (q, lq, (lp, in_all, pair)) =
      let (from, from_is, from_at) = all_are.own q in_all in
      record { from = from; to = Node x; from_is = inl from_is; to_is = inr refl; most = most; bounded = in_time; moved = pair_moved q here pair from (Node x) from_at refl }

  -- ---- what is touched where points moved

  module _ (all bounded : List Bool) (all_at : AreThose (λ p. (p < 256) × (TouchAll pairs reach ⊎ LeadsInto pairs reach.bounded.items p)) all) (bounded_at : AreThose (IsLedToFrom pairs reach.all.items) bounded) where
    abbrev test : Bool
    test = is_in all here || (is_number (links_high (links_of f (Node x))) && is_in bounded here)

    to : test ≡ true → MovesAmong (has_pair pairs) f are x
    to is = elim (or_cases (is_in all here) (is_number (links_high (links_of f (Node x))) && is_in bounded here) is) [
      | inl first ↦ elim (all_at.own here first).1 [ inl touch ↦ by_all touch | inr leads ↦ by_into leads ]
      | inr second ↦ (
          let (number, there) = both (is_number (links_high (links_of f (Node x)))) (is_in bounded here) second in
          let (most, in_time) = number_of (links_high (links_of f (Node x))) number in
          by_from most in_time (bounded_at.own here there))
    ]

    in_all : TouchAll pairs reach ⊎ LeadsInto pairs reach.bounded.items here → test ≡ true
    in_all h = or_left (is_in all here) (is_number (links_high (links_of f (Node x))) && is_in bounded here) (all_at.all here (here_below, h))

    from : MovesAmong (has_pair pairs) f are x → test ≡ true
    from m = by m.from_is m.to_is
      where
        by : are m.from ⊎ (m.from ≡ Node x) → are m.to ⊎ (m.to ≡ Node x) → test ≡ true
        by (inl p_is) (inl q_is) =
            let p_in = all_are.all (base_of f m.from) (m.from, p_is, refl) in
            let q_in = bounded_are.all (base_of f m.to) (m.to, q_is, refl, m.most, m.bounded) in
            let lp = below_length reach.all.items (base_of f m.from) p_in all_are.places in
            let lq = below_length reach.bounded.items (base_of f m.to) q_in bounded_are.places in
            in_all (inl (base_of f m.from, p_in, (base_of f m.to, lq, (lp, q_in, m.moved))))
        by (inr p_is) (inl q_is) =
            let q_in = bounded_are.all (base_of f m.to) (m.to, q_is, refl, m.most, m.bounded) in
            let lq = below_length reach.bounded.items (base_of f m.to) q_in bounded_are.places in
            let pair : has_pair pairs here (base_of f m.to) ≡ true = subst (λ z. has_pair pairs (base_of f z) (base_of f m.to) ≡ true) p_is m.moved in
            in_all (inr (base_of f m.to, lq, (here_below, q_in, pair)))
        by (inl p_is) (inr q_is) =
            let p_in = all_are.all (base_of f m.from) (m.from, p_is, refl) in
            let lp = below_length reach.all.items (base_of f m.from) p_in all_are.places in
            let pair : has_pair pairs (base_of f m.from) here ≡ true = subst (λ z. has_pair pairs (base_of f m.from) (base_of f z) ≡ true) q_is m.moved in
            let in_time : links_high (links_of f (Node x)) ≡ Finite m.most = subst (λ z. links_high (links_of f z) ≡ Finite m.most) q_is m.bounded in
            or_right (is_in all here) (is_number (links_high (links_of f (Node x))) && is_in bounded here)
            (λ i. is_number (in_time i) && bounded_at.all here (base_of f m.from, lp, (here_below, p_in, pair)) i)
        by (inr p_is) (inr q_is) =
            absurd (
            let from_is : base_of f m.from ≡ here = ap (base_of f) p_is in
            let to_is : base_of f m.to ≡ here = ap (base_of f) q_is in
            let one : true ≡ false = sym m.moved ∙ (λ i. has_pair pairs (from_is i) (to_is i)) ∙ itself here here_below in
            cc)

  pub touched_moves : (events : Events) → IsTouchedAt pairs reach events → (is_event_of events s x ≡ true) ↔ MovesAmong (has_pair pairs) f are x
  touched_moves (DueBetween delay before after) none = absurd none
  touched_moves (BeginAt all bounded) at = (to all.items bounded.items at.0 at.1, from all.items bounded.items at.0 at.1)

-- ---- the sets

-- The events are those from whose points a pair leads to a point of the rule; and all, where one
-- leads there from a point of the rule itself.
pub all_touched : (pairs : List Bool) (reach : Reach) (first mid new : List Bool) (within : Bool) → ((p : ℕ) → is_in first p ≡ false) → length first ≡ 256 → length reach.all.items ≡ 256
    → PutsIn (LeadsInto pairs reach.bounded.items) first mid → (within ≡ true) ↔ Meet reach.all.items mid → PutsIn (λ p. (p < 256) × (within ≡ true)) mid new
    → AreThose (λ p. (p < 256) × (TouchAll pairs reach ⊎ LeadsInto pairs reach.bounded.items p)) new
all_touched pairs reach first mid new within none places reach_places put met put_all =
    puts_into_none (λ p. (p < 256) × (TouchAll pairs reach ⊎ LeadsInto pairs reach.bounded.items p)) first new none places (puts_both (LeadsInto pairs reach.bounded.items) (λ p. (p < 256) × (within ≡ true)) (λ p. (p < 256) × (TouchAll pairs reach ⊎ LeadsInto pairs reach.bounded.items p)) first mid new apart (λ p leads. (leads.2.0, inr leads)) all put put_all)
  where
    apart : (p : ℕ) → (p < 256) × (TouchAll pairs reach ⊎ LeadsInto pairs reach.bounded.items p) → LeadsInto pairs reach.bounded.items p ⊎ ((p < 256) × (within ≡ true))
    apart p (less, inl touch) = inr (less, met.1 (touch.0, below_length reach.all.items touch.0 touch.1 reach_places, touch.1, put.all touch.0 touch.2))
    apart p (less, inr leads) = inl leads

    all : (p : ℕ) → (p < 256) × (within ≡ true) → (p < 256) × (TouchAll pairs reach ⊎ LeadsInto pairs reach.bounded.items p)
    all p (less, is) =
        let (q, below, in_reach, in_mid) = met.0 is in
        elim (put.own q in_mid) [
          | inl was ↦ absurd (let both : true ≡ false = sym was ∙ none q in cc)
          | inr leads ↦ (less, inl (q, in_reach, leads))
        ]
