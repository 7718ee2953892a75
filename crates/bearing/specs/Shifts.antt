-- Tokens that are loose, with fast tokens behind them.
use Rattle.std.specs.Prelude.{◌≡◌, ◌≢◌, ◌⊎◌, ℕ, pos, negsuc, Bool, true, false, ◌&&◌, List, [], Option, Some, None}
use Rattle.std.specs.List.{All, Contains}
use Rattle.tmm_model.specs.declared.token.TokenRow.{TokenRow}
use Rattle.tmm_model.specs.Tokens.{is_before}
use Rattle.dist_net.specs.Net.{Net, Nets, IsInUse}
use Rattle.spots.specs.declared.spot.Spot.{Spot}
use Rattle.spots.specs.declared.spot.Spot.TheVariants.{Declared, Node}
use Rattle.spots.specs.Forest.{Forest, Member, member}
use Rattle.spots.specs.Spots.{spot_distance}
use Rattle.spots.proofs.Rows.{IsRowOf}
use Rattle.joined.specs.Shifting.{IsFast}
use Rattle.bearing.specs.declared.places.Place.{Place}
use Rattle.bearing.specs.declared.loose_tokens.Shift.{Shift}
use Rattle.bearing.specs.declared.walls.FastToken.{FastToken}
use Rattle.bearing.specs.Fast.{IsInBoth}
use Rattle.bearing.specs.Places.{IsPlaceOf, TellsWithin}
use Rattle.bearing.specs.PointSets.{is_in}

-- ---- walls

-- whether neither the begin nor the end of a token is out of the set
abbrev pub stands_fast : List Bool → Place → Option Spot → Bool
stands_fast fast place (Some (Declared e)) = is_in fast place.base && is_in fast e
stands_fast fast place (Some (Node x)) = false
stands_fast fast place None = is_in fast place.base

-- a fast token of the class: its place, and its fact
pub record IsFastToken (f : Forest) (loose : ℕ → Bool) (class : List ℕ) (t : FastToken) : Type 0 where
  pub node : ℕ
  pub token : Member
  pub here : member f node ≡ Some token
  pub of : token.class ≡ Some class
  pub fast : IsFast loose token
  pub place : IsPlaceOf f node t.place
  pub fact : t.fact ≡ token.what

-- the token has surely begun by the event at a place
abbrev pub HasBegunBy : Net → Place → FastToken → Type 0
HasBegunBy net event t = TellsWithin net event t.place (pos 0) true

-- two of these tokens, of different facts, have surely begun by the event at a place
pub record AreWallsBy (net : Net) (tokens : List FastToken) (event : Place) : Type 0 where
  pub one : FastToken
  pub other : FastToken
  pub one_is : Contains tokens one
  pub other_is : Contains tokens other
  pub one_begun : HasBegunBy net event one
  pub other_begun : HasBegunBy net event other
  pub differ : one.fact ≢ other.fact

-- a token at the place has not surely begun by the event, or there are walls among the tokens
-- behind it
abbrev pub IsSparedBy : Net → Place → List FastToken → Place → Type 0
IsSparedBy net place behind event = TellsWithin net event place (pos 0) false ⊎ AreWallsBy net behind event

-- ---- what is loose of a class

-- tokens that surely begin after the node at a place
abbrev pub AreBehind : Net → Place → List FastToken → List FastToken → Type 0
AreBehind net place tokens behind = All (λ t. Contains tokens t × TellsWithin net t.place place (negsuc 0) true) behind

-- the places of tokens are in the network
abbrev pub TokensHave : Net → List FastToken → Type 0
TokensHave net tokens = All (λ t. IsInUse net.names t.place.base) tokens

-- the places of tokens are there now and were at the last commit
abbrev pub TokensHaveBoth : Nets → List FastToken → Type 0
TokensHaveBoth nets tokens = All (λ t. IsInBoth nets t.place.base) tokens

-- so are those of a shift
pub record ShiftHasBoth (nets : Nets) (shift : Shift) : Type 0 where
  pub place : IsInBoth nets shift.place.base
  pub before : TokensHaveBoth nets shift.before.items
  pub after : TokensHaveBoth nets shift.after.items

-- A loose token at a place, with those of the tokens that were behind it at the last commit, and
-- that are; with none if it is a span.
pub record IsShift (nets : Nets) (place : Place) (end_is : Option Spot) (tokens : List FastToken) (shift : Shift) : Type 0 where
  pub at : shift.place ≡ place
  pub before : AreBehind nets.committed place tokens shift.before.items
  pub after : AreBehind nets.present place tokens shift.after.items
  pub spans : (end_is ≡ None) ⊎ ((shift.before.items ≡ []) × (shift.after.items ≡ []))

-- the fast token begins surely after node y, which is no span
pub record IsBehindNode (net : Net) (f : Forest) (loose : ℕ → Bool) (class : List ℕ) (y : ℕ) (m : Member) (t : FastToken) : Type 0 where
  pub token : IsFastToken f loose class t
  pub after : is_before (spot_distance net f) (Node y) (Node token.node) ≡ true
  pub no_span : m.end ≡ None

-- it is the token of node y, with fast tokens of the class behind it
pub record IsShiftOf (nets : Nets) (f : Forest) (loose : ℕ → Bool) (class : List ℕ) (y : ℕ) (m : Member) (shift : Shift) : Type 0 where
  pub place : IsPlaceOf f y shift.place
  pub before : All (IsBehindNode nets.committed f loose class y m) shift.before.items
  pub after : All (IsBehindNode nets.present f loose class y m) shift.after.items

-- the token of node y is fast, or one of the shifts is that token
abbrev pub IsNoted : Nets → Forest → (ℕ → Bool) → List ℕ → List Shift → ℕ → Member → Type 0
IsNoted nets f loose class shifts y m = IsFast loose m ⊎ ((shift : Shift) × Contains shifts shift × IsShiftOf nets f loose class y m shift)

-- each loose token of the class is one of these
pub record AreShifts (nets : Nets) (f : Forest) (loose : ℕ → Bool) (class : List ℕ) (shifts : List Shift) : Type 0 where
  pub have : All (ShiftHasBoth nets) shifts
  pub each : (y : ℕ) (m : Member) → member f y ≡ Some m → m.class ≡ Some class → IsNoted nets f loose class shifts y m

-- the token of the row is noted, and those that were stay
pub record NotesRow (nets : Nets) (f : Forest) (loose : ℕ → Bool) (row : TokenRow Spot) (old new : List Shift) : Type 0 where
  pub have : All (ShiftHasBoth nets) old → All (ShiftHasBoth nets) new
  pub more : (shift : Shift) → Contains old shift → Contains new shift
  pub noted : (y : ℕ) (m : Member) → IsRowOf f row y m → IsNoted nets f loose row.class new y m
