-- The laws of spots, their dates, and the order of nodes, where the dates that are kept are those
-- of a network.
use Rattle.std.proofs.Common.{◌≡◌, ℕ, pos, ◌+ℤ◌, ◌≤ℤ◌}
use Rattle.std.specs.Ordering.{int_cmp, nat_cmp, ordering_then}
use Rattle.std.specs.Cmp.Lexicographic.{slice_cmp}
use Rattle.tmm_model.specs.declared.bound.Bound.TheVariants.{Finite}
use Rattle.tmm_model.specs.Bounds.{IfFinite, bound_plus}
use Rattle.tmm_model.specs.Types.{IsTighter, IsOrderOn}
use Rattle.dist_net.specs.Net.{Net}
use Rattle.spots.specs.declared.spot.Spot.{Spot}
use Rattle.spots.specs.Forest.{IsLive}
use Rattle.spots.specs.Spots.{spot_distance, spot_early, spot_cmp, node_cmp}
use Rattle.spots.proofs.Dates as dates
use Rattle.spots.proofs.Laws as laws
use Rattle.occ_tree.specs.Dated.{IsDatedBy, IsKnown}
use Rattle.occ_tree.specs.Standing.{State, nodes_in, forest, order}
use Rattle.occ_tree.specs.Words.{word_in}

-- **By the dates that are kept, nodes are in the order of the network.**
pub dated_cmp : (net : Net) (s : State) → IsDatedBy net s → (x y : ℕ) → IsLive (forest s) x → IsLive (forest s) y → order s x y ≡ node_cmp net (forest s) x y
dated_cmp net s dated x y live_x live_y =
    let first = dated x live_x in
    let second = dated y live_y in
    λ i. ordering_then (int_cmp (first i) (second i)) (slice_cmp nat_cmp (word_in (nodes_in s.rows) x) (word_in (nodes_in s.rows) y))

module _ (net : Net) (s : State) where
  pub itself : (p : Spot) → IsKnown net s p → spot_distance net (forest s) p p ≡ Finite (pos 0)
  itself p (list, dated, at) = laws.itself net (forest s) p (list, at)

  pub triangle : (p q r : Spot) → IsKnown net s p → IsKnown net s q → IsKnown net s r → IsTighter (spot_distance net (forest s) p r) (bound_plus (spot_distance net (forest s) p q) (spot_distance net (forest s) q r))
  triangle p q r (list, _, at_p) (_, _, at_q) (_, _, at_r) = laws.triangle net (forest s) p q r (list, at_p) (list, at_q) (list, at_r)

  pub ordered : IsOrderOn (IsKnown net s) (spot_cmp net (forest s))
  ordered =
      let law = laws.ordered net (forest s) in record {
        antisymm = λ p q a b. law.antisymm p q (a.0, a.2) (b.0, b.2);
        trans = λ p q r a b c. law.trans p q r (a.0, a.2) (b.0, b.2) (c.0, c.2);
        strict = λ p q a b. law.strict p q (a.0, a.2) (b.0, b.2);
      }

  -- none is later than its distance from another allows
  pub dates_met : (p q : Spot) → IsKnown net s p → IsKnown net s q → IfFinite (spot_distance net (forest s) p q) (λ w. spot_early net (forest s) q ≤ℤ (spot_early net (forest s) p +ℤ w))
  dates_met p q (list, _, at_p) (_, _, at_q) = dates.dates_met net (forest s) p q (list, at_p) (list, at_q)
