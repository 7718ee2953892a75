-- What is noted of tokens that leave, and which of those that stay are behind them.
use Rattle.std.proofs.Common.{◌≡◌, ◌∙◌, ℕ, ◌<◌, Bool, true, false, List, [], length, get_or, Option, Some, None, refl, sym, ap, subst}
use Rattle.std.proofs.lemmas.List.Elements.{Contains-get_or}
use Rattle.std.specs.Prelude.{is_some, negsuc}
use Rattle.std.specs.List.{All}
use Rattle.std.specs.Option.{option_map, option_map_or}
use Rattle.tmm_model.specs.declared.token.TokenRow.{TokenRow}
use Rattle.list_theory.proofs.Elements.{In, In-from_Contains}
use Rattle.dist_net.specs.Net.{Net, IsInUse}
use Rattle.spots.specs.declared.spot.Spot.{Spot}
use Rattle.spots.specs.Forest.{Forest, Member, member, IsLive}
use Rattle.spots.specs.Spots.{links_low, links_high}
use Rattle.spots.proofs.Nodes.{node_at}
use Rattle.spots.proofs.Rows.{IsRowOf}
use Rattle.bearing.specs.declared.gone_tokens.Gone.{Gone}
use Rattle.bearing.specs.declared.places.Place.{Place}
use Rattle.bearing.specs.declared.walls.FastToken.{FastToken}
use Rattle.bearing.specs.Gone.{gone_of, BeginIn, IsBehindGone}
use Rattle.bearing.specs.Places.{IsPlaceOf, TellsWithin}
use Rattle.bearing.specs.Shifts.{TokensHave}

-- ---- places

-- a node has its place
pub node_place : (f : Forest) (x : ℕ) (m : Member) → member f x ≡ Some m → IsPlaceOf f x (record { base = m.begin; low = links_low m.links; high = links_high m.links })
node_place f x m at = record {
  base = ap (λ (o : Option Member). option_map_or (λ (k : Member). k.begin) o 0) at;
  low = ap (λ (o : Option Member). links_low (option_map_or (λ (k : Member). k.links) o [])) at;
  high = ap (λ (o : Option Member). links_high (option_map_or (λ (k : Member). k.links) o [])) at;
}

-- there is one place of it
pub one_place : (f : Forest) (x : ℕ) (p q : Place) → IsPlaceOf f x p → IsPlaceOf f x q → p ≡ q
one_place f x p q is also = λ i. record { base = (sym is.base ∙ also.base) i; low = (sym is.low ∙ also.low) i; high = (sym is.high ∙ also.high) i }

-- a node of two forests has one place
pub place_in_both : (f g : Forest) (x : ℕ) (m : Member) (p : Place) → member f x ≡ Some m → member g x ≡ Some m → IsPlaceOf g x p → IsPlaceOf f x p
place_in_both f g x m p at_f at_g is = subst (IsPlaceOf f x) (one_place g x (record { base = m.begin; low = links_low m.links; high = links_high m.links }) p (node_place g x m at_g) is) (node_place f x m at_f)

-- the place of a node begins in the network
pub place_in_use : (net : Net) (f : Forest) (x : ℕ) (p : Place) → BeginIn net f → IsLive f x → IsPlaceOf f x p → IsInUse net.names p.base
place_in_use net f x p begin live is =
    let (m, at) = node_at f x live in
    subst (IsInUse net.names) (sym (ap (λ (o : Option Member). option_map_or (λ (k : Member). k.begin) o 0) at) ∙ is.base) (begin x m at)

-- ---- tokens that leave

-- what is told of a token that goes is what is to be noted
pub gone_is : (f : Forest) (y : ℕ) (m : Member) (class : List ℕ) (place : Place) (is_span : Bool) → member f y ≡ Some m → m.class ≡ Some class → IsPlaceOf f y place → is_span ≡ is_some m.end
    → option_map_or gone_of (member f y) None ≡ Some (record { class = class; place = place; is_span = is_span })
gone_is f y m class place is_span at of is span =
    ap (λ (o : Option Member). option_map_or gone_of o None) at
    ∙ ap (option_map (λ c. record { class = c; place = record { base = m.begin; low = links_low m.links; high = links_high m.links }; is_span = is_some m.end })) of
    ∙ (λ i. Some (record { class = class; place = one_place f y (record { base = m.begin; low = links_low m.links; high = links_high m.links }) place (node_place f y m at) is i; is_span = sym span i }))

-- what is noted of a token has its class, and the point at which it begins
gone_parts : (m : Member) (gone : Gone) → gone_of m ≡ Some gone → (m.begin ≡ gone.place.base) × (m.class ≡ Some gone.class)
gone_parts m gone e = by m.class refl e
  where
    by : (o : Option (List ℕ)) → m.class ≡ o
        → option_map (λ class. record { class = class; place = record { base = m.begin; low = links_low m.links; high = links_high m.links }; is_span = is_some m.end }) o ≡ Some gone
        → (m.begin ≡ gone.place.base) × (m.class ≡ Some gone.class)
    by None is e = cc
    by (Some class) is e =
        let one : record { class = class; place = record { base = m.begin; low = links_low m.links; high = links_high m.links }; is_span = is_some m.end } ≡ gone = cc in
        (ap (λ (g : Gone). g.place.base) one, is ∙ ap (λ (g : Gone). Some g.class) one)

pub gone_base : (m : Member) (gone : Gone) → gone_of m ≡ Some gone → m.begin ≡ gone.place.base
gone_base m gone e = (gone_parts m gone e).0

pub gone_class : (m : Member) (gone : Gone) → gone_of m ≡ Some gone → m.class ≡ Some gone.class
gone_class m gone e = (gone_parts m gone e).1

pub in_at : {X : Type 0} (xs : List X) (k : ℕ) (d : X) → k < length xs → In (get_or xs k d) xs
in_at xs k d less = In-from_Contains xs (get_or xs k d) (Contains-get_or xs k d less)

-- ---- those behind them

module _ (net : Net) (f : Forest) (gone : Gone) where
  -- a token that surely begins after it is behind it
  pub row_behind : (row : TokenRow Spot) (x : ℕ) (m : Member) (place : Place) → IsRowOf f row x m → IsPlaceOf f x place → row.class ≡ gone.class → gone.is_span ≡ false
      → TellsWithin net place gone.place (negsuc 0) true → IsBehindGone net f gone (record { place = place; fact = row.fact })
  row_behind row x m place is at class no_span after = record {
    token = record { node = x; token = m; here = is.here; of = is.class ∙ ap Some class; fast = record { begin = refl; «end» = λ e ends. refl }; place = at; fact = is.fact };
    after = after;
    no_span = no_span;
  }

  -- walls begin in the network
  pub walls_in_use : (walls : List FastToken) → BeginIn net f → All (IsBehindGone net f gone) walls → TokensHave net walls
  walls_in_use walls begin all k d less =
      let behind = (all k d less).token in
      subst (IsInUse net.names) (sym (ap (λ (o : Option Member). option_map_or (λ (k : Member). k.begin) o 0) behind.here) ∙ behind.place.base) (begin behind.node behind.token behind.here)
