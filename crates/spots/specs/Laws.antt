-- Laws of spots, where nodes and network are those of a list.
use Rattle.std.specs.Prelude.{◌≡◌, ◌↔◌, ℕ, List, map}
use Rattle.std.specs.List.{Contains}
use Rattle.tmm_model.specs.declared.token.TokenRow.{TokenRow}
use Rattle.tmm_model.specs.Beliefs.{tokens}
use Rattle.tmm_model.specs.Moments.{Moment, distance, early, occ_cmp}
use Rattle.tmm_model.specs.Standing.{Standing, far_in}
use Rattle.dist_net.specs.Net.{Net}
use Rattle.spots.specs.declared.spot.Spot.{Spot}
use Rattle.spots.specs.Forest.{Forest, IsLive, moment_at}
use Rattle.spots.specs.Spots.{IsSpot, spot_moment, spot_distance, node_early, node_cmp, AreTokens, row_moment}
use Rattle.spots.specs.OfLists.{IsForestOf, HasOccurrences}

-- spots have the distances, the dates and the order of their moments
pub record AreOfList (s : Standing) (net : Net) (f : Forest) : Type 0 where
  pub distances : (p q : Spot) → IsSpot net.names f p → IsSpot net.names f q
      → spot_distance net f p q ≡ distance s (far_in s.premises) (spot_moment net.names f p) (spot_moment net.names f q)
  pub dates : (x : ℕ) → IsLive f x → node_early net f x ≡ early s (far_in s.premises) (moment_at f x)
  pub order : (x y : ℕ) → IsLive f x → IsLive f y → node_cmp net f x y ≡ occ_cmp s (far_in s.premises) (moment_at f x) (moment_at f y)

-- **Spots are those of the list.**
abbrev pub SpotsAreTheLists : Type 0
SpotsAreTheLists = (s : Standing) (net : Net) (f : Forest) → IsForestOf s net f → AreOfList s net f

-- the rows of a class are the list's tokens of that class among the occurrences that the nodes are
abbrev pub RowsAreTheTokens : Type 0
RowsAreTheTokens =
    (s : Standing) (net : Net) (f : Forest) → IsForestOf s net f
    → (b : List Moment) → HasOccurrences b f → (class : List ℕ) (rows : List (TokenRow Spot)) → AreTokens f class rows
    → (k : TokenRow Moment) → Contains (map (row_moment net.names f) rows) k ↔ (Contains (tokens s b) k × (k.class ≡ class))
