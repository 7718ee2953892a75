-- From the latest date of a token on, it has surely begun.
use Rattle.std.proofs.Common.{◌≡◌, ◌∙◌, ℕ, ℤ, pos, ◌+ℤ◌, ◌≤ℤ◌, true, false, List, subst, sym, ap, arith}
use Rattle.std.proofs.lemmas.Int.{ints}
use Rattle.std.specs.Prelude.{◌-ℤ◌, neg_ℤ}
use Rattle.std.specs.List.{All, Contains}
use Rattle.tmm_model.specs.declared.bound.Bound.{Bound}
use Rattle.tmm_model.specs.declared.bound.Bound.TheVariants.{Finite, Free}
use Rattle.tmm_model.specs.declared.point.PointName.TheVariants.{Start, Begin}
use Rattle.tmm_model.specs.declared.token.TokenRow.{TokenRow}
use Rattle.tmm_model.specs.Beliefs.{roots}
use Rattle.tmm_model.specs.Bounds.{bound_at_most, bound_plus, bound_less}
use Rattle.tmm_model.specs.Moments.{At, negated}
use Rattle.tmm_model.specs.Points.{same_name}
use Rattle.tmm_model.specs.Types.{IsTighter}
use Rattle.list_theory.proofs.Elements.{In-from_Contains}
use Rattle.belief_theory.proofs.Sound.{shortest}
use Rattle.dist_net.specs.Net.{Net, IsInUse}
use Rattle.net_theory.proofs.Numbers.{number_far}
use Rattle.spots.specs.declared.spot.Spot.{Spot}
use Rattle.spots.specs.declared.spot.Spot.TheVariants.{Declared, Node}
use Rattle.spots.specs.Forest.{Forest, IsLive, moment}
use Rattle.spots.specs.OfLists.{HasList}
use Rattle.spots.specs.Spots.{IsSpot, links_low, spot_distance}
use Rattle.spots.proofs.Distances.{distance-to_start}
use Rattle.spots.proofs.Nodes.{node_at, live_at, base-moment}
use Rattle.occ_tree.specs.Known.{triangle}
use Rattle.occ_tree.specs.OfLists.{IsTreeIn}
use Rattle.occ_tree.specs.Places.{forest}
use Rattle.occ_tree.specs.Standing.{Kept, present, early}
use Rattle.spots.proofs.TokenSpots.{token_row_spots}
use Rattle.revisions.proofs.StillEdits.{base_root}
use Rattle.revisions.specs.Walls.{begins_by}
use Rattle.bearing.specs.Windows.{are_two, HasBegunFrom, AreTwoFrom, IsOfNode, IsWall}
use Rattle.bearing.proofs.Spared.{two_tells}

-- each node is so long after date 0 at least
to_start : (net : Net) (f : Forest) → HasList net f → (x : ℕ) → IsLive f x → (d : ℤ) × (spot_distance net f (Node x) (Declared 0) ≡ Finite d)
to_start net f (s, seen) x live =
    let (m, at) = node_at f x live in
    let of = seen.members x m at in
    let declared = subst (λ p. Contains (roots s) (At p)) (base-moment m) (base_root s (moment m) of.occurs) in
    let (d, is, _) = (shortest s seen.network.sound).from_root (Begin m.root) declared in (
      d -ℤ links_low m.links,
      distance-to_start net f (s, seen) x m at
          ∙ ap (λ (far : Bound). bound_less far (links_low m.links)) (number_far s net seen.network m.begin 0 (Begin m.root) Start of.begin seen.network.start ∙ is),
    )

-- the way by date 0 is no shorter
by_start : (far : Bound) (d date : ℤ) → IsTighter far (Finite (d +ℤ date)) → date ≤ℤ neg_ℤ d → bound_at_most far (pos 0) ≡ true
by_start Free d date near late = absurd near
by_start (Finite x) d date near late = grind (arith, ints)

-- **At an event no earlier than the latest date of a token, it has surely begun.**
pub begun_from : (net : Net) (tree : Kept) → IsTreeIn net tree → IsInUse net.names 0 → (k : TokenRow Spot) → IsSpot net.names (forest tree) k.spot → (date : ℤ)
    → spot_distance net (forest tree) (Declared 0) k.spot ≡ Finite date → HasBegunFrom net tree k date
begun_from net tree is start k at date far t live late =
    let (d, first) = to_start net (forest tree) is.list t live in
    let near = triangle net (present tree) (Node t) (Declared 0) k.spot (is.list, is.dated, live) (is.list, is.dated, start) (is.list, is.dated, at) in
    by_start (spot_distance net (forest tree) (Node t) k.spot) d date
    (subst (λ (b : Bound). IsTighter (spot_distance net (forest tree) (Node t) k.spot) b) (λ i. bound_plus (first i) (far i)) near)
    (subst (λ e. date ≤ℤ e) (is.dated t live ∙ ap negated first) late)

-- the token of a node is at a spot
pub token_spot : (net : Net) (f : Forest) (k : TokenRow Spot) → IsOfNode f k → IsSpot net.names f k.spot
token_spot net f k (x, m, here, is) = subst (IsSpot net.names f) (sym (token_row_spots x m k is).0) (live_at f x m here)

-- walls are tokens of nodes
pub walls_of_nodes : (net : Net) (f : Forest) (moving : List ℕ) (k : TokenRow Spot) (walls : List (TokenRow Spot)) → All (IsWall net f moving k) walls → All (IsOfNode f) walls
walls_of_nodes net f moving k walls all i d less = let of = (all i d less).of_other in (of.number, of.node, of.here, of.is)

-- ---- two tokens

two_of : (far : Spot → Spot → Bound) (t : ℕ) (walls : List (TokenRow Spot)) (one other : TokenRow Spot) → Contains walls one → Contains walls other → same_name one.fact other.fact ≡ false
    → begins_by far (Node t) one ≡ true → begins_by far (Node t) other ≡ true → are_two far t walls ≡ true
two_of far t walls one other one_in other_in differ one_begun other_begun =
    two_tells far t walls (record { one = one; other = other; one_in = In-from_Contains walls one one_in; other_in = In-from_Contains walls other other_in; one_begun = one_begun; other_begun = other_begun; differ = differ })

-- from a date no earlier than theirs on both have begun
pub two_from : (net : Net) (tree : Kept) (walls : List (TokenRow Spot)) (one other : TokenRow Spot) → Contains walls one → Contains walls other → same_name one.fact other.fact ≡ false
    → (a b date : ℤ) → a ≤ℤ date → b ≤ℤ date → HasBegunFrom net tree one a → HasBegunFrom net tree other b → AreTwoFrom net tree walls date
two_from net tree walls one other one_in other_in differ a b date a_by b_by one_from other_from t live late =
    let e = early (present tree) t in
    two_of (spot_distance net (forest tree)) t walls one other one_in other_in differ (one_from t live (at_most a date e a_by late)) (other_from t live (at_most b date e b_by late))
  where
    at_most : (x y z : ℤ) → x ≤ℤ y → y ≤ℤ z → x ≤ℤ z
    at_most x y z h g = omega (arith, ints)
