-- Tokens that left, and the events at which they bore on no decision.
use Rattle.std.specs.Prelude.{◌≡◌, ℕ, true, false, negsuc, List, Option, Some, None, is_some}
use Rattle.std.specs.List.{All}
use Rattle.std.specs.Option.{option_map, option_map_or}
use Rattle.dist_net.specs.Net.{Net, IsInUse}
use Rattle.spots.specs.Forest.{Forest, Member, member}
use Rattle.spots.specs.Spots.{links_low, links_high}
use Rattle.occ_tree.specs.Places.{forest}
use Rattle.occ_tree.specs.Standing.{Kept}
use Rattle.bearing.specs.declared.gone_tokens.Gone.{Gone}
use Rattle.bearing.specs.declared.places.Place.{Place}
use Rattle.bearing.specs.declared.walls.FastToken.{FastToken}
use Rattle.bearing.specs.Places.{IsPlaceOf, TellsWithin}
use Rattle.bearing.specs.Shifts.{IsFastToken, IsSparedBy}

-- what is noted of a token that goes, none of an event
abbrev pub gone_of : Member → Option Gone
gone_of m = option_map (λ class. record { class = class; place = record { base = m.begin; low = links_low m.links; high = links_high m.links }; is_span = is_some m.end }) m.class

-- so at a node
abbrev pub gone_at : Kept → ℕ → Option Gone
gone_at tree y = option_map_or gone_of (member (forest tree) y) None

-- the nodes begin at points of the network
abbrev pub BeginIn : Net → Forest → Type 0
BeginIn net f = (x : ℕ) (m : Member) → member f x ≡ Some m → IsInUse net.names m.begin

-- a token of its class that stays, and surely begins after the token that left, which was no span
pub record IsBehindGone (net : Net) (f : Forest) (gone : Gone) (wall : FastToken) : Type 0 where
  pub token : IsFastToken f (λ p. false) gone.class wall
  pub after : TellsWithin net wall.place gone.place (negsuc 0) true
  pub no_span : gone.is_span ≡ false

-- **The token that left bore on no decision at the event of node x**: it had not surely begun there,
-- or there were walls among those behind it that stay.
pub record BoreNot (net : Net) (f : Forest) (gone : Gone) (x : ℕ) : Type 0 where
  pub event : Place
  pub event_is : IsPlaceOf f x event
  pub walls : List FastToken
  pub behind : All (IsBehindGone net f gone) walls
  pub spared : IsSparedBy net gone.place walls event
