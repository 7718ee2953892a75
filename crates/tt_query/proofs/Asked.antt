-- The three ways in which a question for a fact is answered.
use Rattle.std.proofs.Common.{◌≡◌, ◌∙◌, ap, true, false, List, ℕ, pos}
use Rattle.std.specs.Prelude.{Option, Some, None, Bool}
use Rattle.tmm_model.specs.declared.bound.Bound.{Bound}
use Rattle.tmm_model.specs.Answers.{Finding, holds, unordered, failing, tokens_for, ask}
use Rattle.tmm_model.specs.Beliefs.{holder}
use Rattle.tmm_model.specs.Bounds.{bound_at_most}
use Rattle.tmm_model.specs.Maps.{TimeMap, built, gap}
use Rattle.tmm_model.specs.Moments.{Moment}
use Rattle.tmm_model.specs.Tokens.{is_by}
use Rattle.tmm_model.specs.Standing.{Standing}
use Rattle.dist_net.specs.Net.{Net}
use Rattle.spots.specs.declared.spot.Spot.{Spot}
use Rattle.spots.specs.Forest.{Forest}
use Rattle.spots.specs.OfLists.{IsForestOf}
use Rattle.spots.specs.Spots.{IsSpot, spot_moment, spot_distance}
use Rattle.spots.proofs.Seen.{distance_is}
use Rattle.tt_query.specs.Firsts.{failing_of}

module _ (m : TimeMap) (fact : List ℕ) (p q : Moment) where
  abbrev found : Option Moment → Finding
  found o = elim o as (λ _. Finding) [ Some k ↦ holds k | None ↦ failing m p q (tokens_for m fact) ]

  abbrev asked : Bool → Finding
  asked b = elim b as (λ _. Finding) [ false ↦ unordered | true ↦ found (holder m.list m.far m.believed fact p q) ]

  pub ask_unordered : is_by (gap m) p q ≡ false → ask m fact p q ≡ unordered
  ask_unordered e = ap asked e

  pub ask_holds : (k : Moment) → is_by (gap m) p q ≡ true → holder m.list m.far m.believed fact p q ≡ Some k → ask m fact p q ≡ holds k
  ask_holds k e h = ap asked e ∙ ap found h

  pub ask_fails : is_by (gap m) p q ≡ true → holder m.list m.far m.believed fact p q ≡ None → ask m fact p q ≡ failing_of m fact p q
  ask_fails e h = ap asked e ∙ ap found h

-- whether one spot is surely at or before another, by the moments
pub surely : (s : Standing) (net : Net) (f : Forest) → IsForestOf s net f → (p q : Spot) → IsSpot net.names f p → IsSpot net.names f q
    → bound_at_most (spot_distance net f q p) (pos 0) ≡ is_by (gap (built s)) (spot_moment net.names f p) (spot_moment net.names f q)
surely s net f seen p q at_p at_q = ap (λ (d : Bound). bound_at_most d (pos 0)) (distance_is s net f seen q p at_q at_p)
