-- How far apart nodes are, by their places.
use Rattle.std.proofs.Common.{◌≡◌, ◌≢◌, ◌∙◌, ℕ, Bool, sym, ap, subst, w64, to_z, of_z, arith}
use Rattle.std.proofs.lemmas.Int.{ints, to_z-of_z}
use Rattle.std.specs.Int.{w128}
use Rattle.std.specs.Prelude.{ℤ, ◌+ℤ◌, ◌-ℤ◌, int_le, FitsSigned}
use Rattle.tmm_model.specs.declared.bound.Bound.{Bound}
use Rattle.tmm_model.specs.Bounds.{bound_plus, bound_less, bound_at_most}
use Rattle.dist_net.specs.Net.{Net}
use Rattle.spots.specs.declared.node_row.NodeRow.{NodeRow}
use Rattle.spots.specs.declared.spot.Spot.TheVariants.{Node}
use Rattle.spots.specs.Forest.{Forest, Member, IsLive}
use Rattle.spots.specs.Rows.{IsRowOf}
use Rattle.spots.specs.Spots.{base_of, links_of, links_low, net_far}
use Rattle.std.specs.Option.{option_map_or}
use Rattle.std.proofs.Common.{Option, []}
use Rattle.spots.proofs.Distances.{distance-two_bases}
use Rattle.spots.proofs.Nodes.{node_at}
use Rattle.bearing.specs.declared.places.Place.{Place}
use Rattle.bearing.specs.Places.{IsPlaceOf, TellsWithin}
use Rattle.spots.specs.Spots.{links_high}

-- what is told of a node is what it is as a spot
pub row_base : (f : Forest) (x : ℕ) (row : NodeRow) → IsLive f x → IsRowOf f x row → base_of f (Node x) ≡ row.begin
row_base f x row live told = let (m, at) = node_at f x live in ap (λ (o : Option Member). option_map_or (λ (m : Member). m.begin) o 0) at ∙ sym (told m at).begin

pub row_high : (f : Forest) (x : ℕ) (row : NodeRow) → IsLive f x → IsRowOf f x row → links_high (links_of f (Node x)) ≡ row.high
row_high f x row live told = let (m, at) = node_at f x live in ap (λ (o : Option Member). links_high (option_map_or (λ (m : Member). m.links) o [])) at ∙ sym (told m at).high

pub row_low : (f : Forest) (x : ℕ) (row : NodeRow) → IsLive f x → IsRowOf f x row → links_low (links_of f (Node x)) ≡ row.low
row_low f x row live told = let (m, at) = node_at f x live in ap (λ (o : Option Member). links_low (option_map_or (λ (m : Member). m.links) o [])) at ∙ sym (told m at).low

-- what is told of a node is its place
pub row_place : (f : Forest) (x : ℕ) (row : NodeRow) → IsLive f x → IsRowOf f x row → IsPlaceOf f x (record { base = row.begin; low = row.low; high = row.high })
row_place f x row live told = record { base = row_base f x row live told; low = row_low f x row live told; high = row_high f x row live told }

-- from the places of two points the distance of nodes follows
pub tells_within : (net : Net) (from to : Place) (most : ℤ) → from.base ≢ to.base
    → TellsWithin net from to most (bound_at_most (bound_less (bound_plus (net_far net from.base to.base) to.high) from.low) most)
tells_within net from to most two f a b of_a of_b =
    let apart : base_of f (Node a) ≢ base_of f (Node b) = λ one. two (sym of_a.base ∙ one ∙ of_b.base) in
    ap (λ d. bound_at_most d most)
    (distance-two_bases net f (Node a) (Node b) apart ∙ (λ i. bound_less (bound_plus (net_far net (of_a.base i) (of_b.base i)) (of_b.high i)) (of_a.low i)))

-- so it does from what is computed of them
pub within_told : (net : Net) (from to : Place) (most low at : ℤ) (far : Bound) (v : Bool) → from.base ≢ to.base → far ≡ net_far net from.base to.base → low ≡ from.low → at ≡ most
    → v ≡ bound_at_most (bound_less (bound_plus far to.high) low) at → TellsWithin net from to most v
within_told net from to most low at far v two is_far is_low is_most is =
    let same : bound_at_most (bound_less (bound_plus (net_far net from.base to.base) to.high) from.low) most ≡ v =
    sym (is ∙ (λ i. bound_at_most (bound_less (bound_plus (is_far i) to.high) (is_low i)) (is_most i))) in
    subst (TellsWithin net from to most) same (tells_within net from to most two)

-- ---- sums of numbers of 64 bits, computed in 128

wide_seen : (z : ℤ) → FitsSigned w64 z → to_z w128 (of_z w128 (to_z w64 (of_z w64 z))) ≡ z
wide_seen z fits =
    let wide : FitsSigned w128 z = omega (arith, ints) in
    ap (λ (y : ℤ). to_z w128 (of_z w128 y)) (to_z-of_z w64 z fits) ∙ to_z-of_z w128 z wide

pub sum_seen : (far more less most : ℤ) → FitsSigned w64 far → FitsSigned w64 more → FitsSigned w64 less → FitsSigned w64 most
    → int_le (to_z w128 (of_z w128 (to_z w128 (of_z w128 (to_z w128 (of_z w128 (to_z w64 (of_z w64 far))) +ℤ to_z w128 (of_z w128 (to_z w64 (of_z w64 more)))))
    -ℤ to_z w128 (of_z w128 (to_z w64 (of_z w64 less)))))) (to_z w128 (of_z w128 (to_z w64 (of_z w64 most))))
    ≡ int_le ((far +ℤ more) -ℤ less) most
sum_seen far more less most fits_far fits_more fits_less fits_most =
    let fits_sum : FitsSigned w128 (far +ℤ more) = omega (arith, ints) in
    let fits_all : FitsSigned w128 ((far +ℤ more) -ℤ less) = omega (arith, ints) in
    (λ i. int_le (to_z w128 (of_z w128 (to_z w128 (of_z w128 (wide_seen far fits_far i +ℤ wide_seen more fits_more i)) -ℤ wide_seen less fits_less i))) (wide_seen most fits_most i))
    ∙ ((λ i. int_le (to_z w128 (of_z w128 (to_z-of_z w128 (far +ℤ more) fits_sum i -ℤ less))) most)
    ∙ ap (λ (z : ℤ). int_le z most) (to_z-of_z w128 ((far +ℤ more) -ℤ less) fits_all))
