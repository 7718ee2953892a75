-- The earliest dates of spots meet their distances.
use Rattle.std.proofs.Common.{◌≡◌, ◌∙◌, ℕ, ℤ, pos, negsuc, Bool, true, false, List, [], ◌∷◌, refl, sym, ap, inl, inr, arith, ◌+ℤ◌, ◌≤ℤ◌}
use Rattle.std.proofs.lemmas.Int.{ints}
use Rattle.std.specs.Prelude.{◌-ℤ◌}
use Rattle.std.specs.List.{Contains}
use Rattle.tmm_model.specs.declared.bound.Bound.{Bound}
use Rattle.tmm_model.specs.declared.bound.Bound.TheVariants.{Finite, Free}
use Rattle.tmm_model.specs.declared.point.PointName.{PointName}
use Rattle.tmm_model.specs.declared.point.PointName.TheVariants.{Start, Begin, End}
use Rattle.tmm_model.specs.declared.premise.Premise.{Premise}
use Rattle.tmm_model.specs.declared.premise.Premise.TheVariants.{Class, Kind, Point, Event, Token, Span, Dist, Rule, Protect, Against}
use Rattle.tmm_model.specs.Bounds.{IfFinite, bound_plus, bound_less}
use Rattle.tmm_model.specs.Moments.{negated, base}
use Rattle.tmm_model.specs.Standing.{Standing, points_of, points_in, arcs_of, arcs_in, far_in}
use Rattle.tmm_model.specs.Types.{IsTighter}
use Rattle.tmm_model.specs.Walks.{Arc, total}
use Rattle.walk_theory.specs.LeastWalks.{AtMost, IsWalk}
use Rattle.list_theory.proofs.Elements.{In, In-from_Contains, Contains-from_In, In-flat_map, flat_map-In}
use Rattle.belief_theory.proofs.Sound.{far_in-IsFar}
use Rattle.dist_net.specs.Net.{Net, same_number}
use Rattle.net_theory.specs.Represents.{IsNumberOf}
use Rattle.net_theory.proofs.Nets.{is_in_use}
use Rattle.net_theory.proofs.Numbers.{number_far}
use Rattle.spots.specs.declared.link.Link.{Link}
use Rattle.spots.specs.declared.spot.Spot.{Spot}
use Rattle.spots.specs.declared.spot.Spot.TheVariants.{Declared}
use Rattle.spots.specs.Forest.{Forest}
use Rattle.spots.specs.OfLists.{IsForestOf}
use Rattle.spots.specs.Spots.{IsSpot, base_of, links_of, links_low, links_high, links_apart, net_far, spot_moment, spot_distance, spot_early}
use Rattle.spots.proofs.Laws.{IsThere, triangle}
use Rattle.spots.proofs.Nodes.{point_is}

-- ---- no point is before `start`

-- from a point of a premise a walk leads to `start`
walk_of : (premises : List Premise) (q : Premise) → In q premises → (p : PointName) → In p (points_of q) → (walk : List (Arc PointName)) × IsWalk (arcs_in premises) p Start walk
walk_of premises q there p at = by q there at
  where
    based : (name : List ℕ) (q : Premise) → In q premises → In (record { from = Begin name; to = Start; weight = pos 0 }) (arcs_of q) → Contains (arcs_in premises) (record { from = Begin name; to = Start; weight = pos 0 })
    based name q there first = Contains-from_In (arcs_in premises) (record { from = Begin name; to = Start; weight = pos 0 }) (flat_map-In arcs_of premises q (record { from = Begin name; to = Start; weight = pos 0 }) there first)

    one : (name : List ℕ) → Contains (arcs_in premises) (record { from = Begin name; to = Start; weight = pos 0 }) → Begin name ≡ p → (walk : List (Arc PointName)) × IsWalk (arcs_in premises) p Start walk
    one name arc is = (record { from = Begin name; to = Start; weight = pos 0 } ∷ [], (arc, is, refl))

    by : (q : Premise) → In q premises → In p (points_of q) → (walk : List (Arc PointName)) × IsWalk (arcs_in premises) p Start walk
    by (Point name) there (inl is) = one name (based name (Point name) there (inl refl)) is
    by (Event name kind) there (inl is) = one name (based name (Event name kind) there (inl refl)) is
    by (Token name fact) there (inl is) = one name (based name (Token name fact) there (inl refl)) is
    by (Span name fact) there (inl is) = one name (based name (Span name fact) there (inl refl)) is
    by (Span name fact) there (inr (inl is)) = (
      record { from = End name; to = Begin name; weight = negsuc 0 } ∷ record { from = Begin name; to = Start; weight = pos 0 } ∷ [],
      (
        Contains-from_In (arcs_in premises) (record { from = End name; to = Begin name; weight = negsuc 0 }) (flat_map-In arcs_of premises (Span name fact) (record { from = End name; to = Begin name; weight = negsuc 0 }) there (inr (inl refl))),
        is,
        (based name (Span name fact) there (inl refl), refl, refl),
      ),
    )
    by (Point name) there (inr at) = absurd at
    by (Event name kind) there (inr at) = absurd at
    by (Token name fact) there (inr at) = absurd at
    by (Span name fact) there (inr (inr at)) = absurd at
    by (Class name facts) there at = absurd at
    by (Kind name) there at = absurd at
    by (Dist name from to lo hi) there at = absurd at
    by (Rule name trigger lo hi effect given unless_facts) there at = absurd at
    by (Protect name fact from to) there at = absurd at
    by (Against name one other) there at = absurd at

walk_to_start : (premises : List Premise) (p : PointName) → Contains (points_in premises) p → (walk : List (Arc PointName)) × IsWalk (arcs_in premises) p Start walk
walk_to_start premises p at = elim (In-from_Contains (points_in premises) p at) [
  | inl is ↦ ([], sym is)
  | inr rest ↦ (let (q, there, here) = In-flat_map points_of premises p rest in walk_of premises q there p here)
]

is_number : (x : Bound) (s : ℤ) → AtMost x s → (d : ℤ) × (x ≡ Finite d)
is_number (Finite d) s h = (d, refl)
is_number Free s h = absurd h

far_to_start : (s : Standing) (net : Net) (f : Forest) → IsForestOf s net f → (p : PointName) → Contains (points_in s.premises) p → (d : ℤ) × (far_in s.premises p Start ≡ Finite d)
far_to_start s net f seen p at =
    let (walk, is) = walk_to_start s.premises p at in
    is_number (far_in s.premises p Start) (total walk) ((far_in-IsFar s seen.network.sound p Start).least walk is)

-- ---- the earliest dates

apart_none : (u : List Link) → links_apart u [] ≡ bound_less (Finite (pos 0)) (links_low u)
apart_none [] = refl
apart_none (l ∷ u) = refl

-- the way by the second to a point is no shorter than that from the first
within : (pq p q : Bound) (a : ℤ) → q ≡ Finite a → IsTighter p (bound_plus pq q) → IfFinite pq (λ w. negated q ≤ℤ (negated p +ℤ w))
within Free p q a e t = tt
within (Finite w) p Free a e t = cc
within (Finite w) Free (Finite q) a e t = absurd t
within (Finite w) (Finite p) (Finite q) a e t = omega (arith, ints)

module _ (net : Net) (f : Forest) where
  spot_to_start : (s : Standing) → IsForestOf s net f → (p : Spot) → IsSpot net.names f p → (d : ℤ) × (spot_distance net f p (Declared 0) ≡ Finite d)
  spot_to_start s seen p at = by (same_number (base_of f p) 0) refl
    where
      low : ℤ
      low = links_low (links_of f p)

      point : IsNumberOf net.names (base_of f p) (base (spot_moment net.names f p))
      point = point_is s net f seen p at

      by : (b : Bool) → same_number (base_of f p) 0 ≡ b
          → (d : ℤ) × ((elim b [ true ↦ links_apart (links_of f p) [] | false ↦ bound_less (bound_plus (net_far net (base_of f p) 0) (links_high [])) low ]) ≡ Finite d)
      by true e = (pos 0 -ℤ low, apart_none (links_of f p))
      by false e =
          let (d, is) = far_to_start s net f seen (base (spot_moment net.names f p)) (seen.network.fits.stands.named (base_of f p) (base (spot_moment net.names f p)) point) in
          let far = number_far s net seen.network (base_of f p) 0 (base (spot_moment net.names f p)) Start point seen.network.start in (
            (d +ℤ pos 0) -ℤ low,
            ap (λ x. bound_less (bound_plus x (Finite (pos 0))) low) (far ∙ is),
          )

  -- **The earliest dates of spots meet their distances**: none is later than its distance from
  -- another allows.
  pub dates_met : (p q : Spot) → IsThere net f p → IsThere net f q → IfFinite (spot_distance net f p q) (λ w. spot_early net f q ≤ℤ (spot_early net f p +ℤ w))
  dates_met p q at_p at_q =
      let (s, seen) = at_q.0 in
      let (d, is) = spot_to_start s seen q at_q.1 in
      within (spot_distance net f p q) (spot_distance net f p (Declared 0)) (spot_distance net f q (Declared 0)) d is
      (triangle net f p q (Declared 0) at_p at_q (at_q.0, is_in_use net.names 0 Start seen.network.start))
