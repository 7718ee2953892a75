-- Which events a token spares that enters or leaves in a turn: those where it bears on no decision.
use Rattle.std.specs.Prelude.{◌≡◌, ◌⊎◌, ℕ, false, Some}
use Rattle.tmm_model.specs.declared.token.TokenRow.{TokenRow}
use Rattle.tmm_model.specs.Moments.{Moment}
use Rattle.dist_net.specs.Net.{Net}
use Rattle.spots.specs.declared.spot.Spot.{Spot}
use Rattle.spots.specs.declared.spot.Spot.TheVariants.{Node}
use Rattle.spots.specs.Forest.{Forest, Member, member, moment}
use Rattle.spots.specs.Spots.{spot_distance, token_row}
use Rattle.revisions.specs.Walls.{begins_by, AreWallsAt}

-- the token is that of a node which is there before the turn and after it
pub record StaysIn (f g : Forest) (k : TokenRow Spot) : Type 0 where
  pub number : ℕ
  pub node : Member
  pub before : member f number ≡ Some node
  pub after : member g number ≡ Some node
  pub is : token_row number node ≡ Some k

-- two tokens that stay are walls between the token k and node t, by the distances of these nodes
pub record HasWalls (net : Net) (f g nodes : Forest) (t : ℕ) (k : TokenRow Spot) : Type 0 where
  pub one : TokenRow Spot
  pub other : TokenRow Spot
  pub one_stays : StaysIn f g one
  pub other_stays : StaysIn f g other
  pub walls : AreWallsAt (spot_distance net nodes) (Node t) k one other

-- **The token that begins at x bears on no decision at node t**, by the distances of the nodes
-- before the turn or of those after it: it has not surely begun there, or it has walls.
pub record IsSparedAt (net : Net) (f g : Forest) (x : Moment) (t : ℕ) : Type 0 where
  pub nodes : Forest
  pub of_turn : (nodes ≡ f) ⊎ (nodes ≡ g)
  pub number : ℕ
  pub node : Member
  pub here : member nodes number ≡ Some node
  pub begins : moment node ≡ x
  pub row : TokenRow Spot
  pub is : token_row number node ≡ Some row
  pub spared : (begins_by (spot_distance net nodes) (Node t) row ≡ false) ⊎ HasWalls net f g nodes t row

-- node t is there before the turn and after it
pub record StaysNode (f g : Forest) (t : ℕ) : Type 0 where
  pub node : Member
  pub before : member f t ≡ Some node
  pub after : member g t ≡ Some node
