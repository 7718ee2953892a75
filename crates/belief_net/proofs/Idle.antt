-- A token that left, and the walls behind it, by nodes: it bore on no decision at an event.
use Rattle.std.proofs.Common.{◌≡◌, ◌≢◌, ◌∙◌, ℕ, true, false, List, [], Option, Some, None, refl, sym, ap, inl, inr, ◌⊎◌}
use Rattle.std.proofs.lemmas.List.Elements.{All-contains}
use Rattle.std.specs.Prelude.{is_some}
use Rattle.std.specs.List.{All}
use Rattle.std.specs.Option.{option_map, option_map_or}
use Rattle.tmm_model.specs.declared.token.TokenRow.{TokenRow}
use Rattle.dist_net.specs.Net.{Net}
use Rattle.spots.specs.declared.spot.Spot.{Spot}
use Rattle.spots.specs.declared.spot.Spot.TheVariants.{Declared, Node}
use Rattle.spots.specs.Forest.{Forest, Member, member, moment, IsLive}
use Rattle.spots.specs.Spots.{links_low, links_high, spot_distance, token_row}
use Rattle.spots.proofs.Nodes.{node_at}
use Rattle.revisions.specs.Walls.{begins_by}
use Rattle.joined.specs.Sparing.{StaysIn, HasWalls, IsSparedAt}
use Rattle.bearing.specs.declared.gone_tokens.Gone.{Gone}
use Rattle.bearing.specs.declared.places.Place.{Place}
use Rattle.bearing.specs.declared.walls.FastToken.{FastToken}
use Rattle.belief_net.specs.Beginning.{those_in}
use Rattle.bearing.specs.Gone.{gone_of, IsBehindGone, BoreNot}
use Rattle.bearing.specs.Places.{IsPlaceOf}
use Rattle.bearing.specs.Shifts.{HasBegunBy, AreWallsBy, IsSparedBy}
use Rattle.bearing.specs.Windows.{IsWall}
use Rattle.bearing.proofs.LeftTokens.{node_place, place_in_both}
use Rattle.bearing.proofs.Spared.{between, over}

-- what is noted of a token of a class
abbrev pub the_gone : Member → List ℕ → Gone
the_gone m class = record { class = class; place = record { base = m.begin; low = links_low m.links; high = links_high m.links }; is_span = is_some m.end }

pub gone_noted : (m : Member) (class : List ℕ) → m.class ≡ Some class → gone_of m ≡ Some (the_gone m class)
gone_noted m class of = ap (option_map (the_gone m)) of

-- the token of a node
abbrev the_row : ℕ → Member → List ℕ → TokenRow Spot
the_row x m class = record { spot = Node x; end = option_map Declared m.end; fact = m.what; class = class }

row_told : (x : ℕ) (m : Member) (class : List ℕ) → m.class ≡ Some class → token_row x m ≡ Some (the_row x m class)
row_told x m class of = ap (option_map (the_row x m)) of

no_end : (o : Option ℕ) → is_some o ≡ false → option_map Declared o ≡ None
no_end None e = refl
no_end (Some x) e = cc

-- what stays of a forest, and is in another one
pub in_both : (f g : Forest) (x : ℕ) (m : Member) → member f x ≡ Some m → member g x ≡ Some m → member (those_in f g) x ≡ Some m
in_both f g x m at_f at_g = ap (λ o. option_map_or (λ (k : Member). member f x) o None) at_g ∙ at_f

-- nodes m are those of f that stay, and are nodes of g
module _ (net : Net) (f g m : Forest) (stay : (x : ℕ) (k : Member) → member m x ≡ Some k → member f x ≡ Some k) (on : (x : ℕ) (k : Member) → member m x ≡ Some k → member g x ≡ Some k)
    (x : ℕ) (z : Member) (class : List ℕ) (at : member f x ≡ Some z) (of : z.class ≡ Some class) (t : ℕ) (live : IsLive m t) where
  abbrev row : TokenRow Spot
  row = the_row x z class

  -- a node that stays has its place among those before
  place_before : (v : ℕ) (k : Member) (p : Place) → member m v ≡ Some k → IsPlaceOf m v p → IsPlaceOf f v p
  place_before v k p here is = place_in_both f m v k p (stay v k here) here is

  event_before : (p : Place) → IsPlaceOf m t p → IsPlaceOf f t p
  event_before p is = let (k, here) = node_at m t live in place_before t k p here is

  module _ (event : Place) (event_is : IsPlaceOf m t event) where
    -- a token behind it is a wall
    module _ (w : FastToken) (behind : IsBehindGone net m (the_gone z class) w) where
      abbrev v : ℕ
      v = behind.token.node

      abbrev wall : TokenRow Spot
      wall = the_row behind.token.node behind.token.token class

      wall_place : IsPlaceOf f v w.place
      wall_place = place_before v behind.token.token w.place behind.token.here behind.token.place

      is_wall : IsWall net f [] (the_row x z class) wall
      is_wall = record {
        of_other = record {
          number = v;
          node = behind.token.token;
          here = stay v behind.token.token behind.token.here;
          stays = λ on_none. (let no : false ≡ true = on_none in cc);
          is = row_told v behind.token.token class behind.token.of;
        };
        class = refl;
        after = behind.after f v x wall_place (node_place f x z at);
        endless = no_end z.end behind.no_span;
      }

      wall_stays : StaysIn f (those_in f g) wall
      wall_stays = record {
        number = v;
        node = behind.token.token;
        before = stay v behind.token.token behind.token.here;
        after = in_both f g v behind.token.token (stay v behind.token.token behind.token.here) (on v behind.token.token behind.token.here);
        is = row_told v behind.token.token class behind.token.of;
      }

      wall_begun : HasBegunBy net event w → begins_by (spot_distance net f) (Node t) wall ≡ true
      wall_begun begun = begun f t v (event_before event event_is) wall_place

    walled : (walls : List FastToken) → All (IsBehindGone net m (the_gone z class)) walls → AreWallsBy net walls event → HasWalls net f (those_in f g) f t (the_row x z class)
    walled walls all w =
        let one = All-contains (IsBehindGone net m (the_gone z class)) walls w.one all w.one_is in
        let other = All-contains (IsBehindGone net m (the_gone z class)) walls w.other all w.other_is in
        let one_begun = wall_begun w.one one w.one_begun in
        let other_begun = wall_begun w.other other w.other_begun in
        let differ : one.token.token.what ≢ other.token.token.what = λ same. w.differ (one.token.fact ∙ same ∙ sym other.token.fact) in
        record {
          one = the_row one.token.node one.token.token class;
          other = the_row other.token.node other.token.token class;
          one_stays = wall_stays w.one one;
          other_stays = wall_stays w.other other;
          walls = record {
            one = between net f [] (the_row x z class) t (the_row one.token.node one.token.token class) (is_wall w.one one) one_begun;
            other = between net f [] (the_row x z class) t (the_row other.token.node other.token.token class) (is_wall w.other other) other_begun;
            differ = differ;
            over = over net f [] (the_row x z class) t (the_row one.token.node one.token.token class) (the_row other.token.node other.token.token class) (is_wall w.one one) (is_wall w.other other) one_begun other_begun differ;
          };
        }

    spared : (walls : List FastToken) → All (IsBehindGone net m (the_gone z class)) walls → IsSparedBy net (the_gone z class).place walls event
        → (begins_by (spot_distance net f) (Node t) (the_row x z class) ≡ false) ⊎ HasWalls net f (those_in f g) f t (the_row x z class)
    spared walls all (inl not_yet) = inl (not_yet f t x (event_before event event_is) (node_place f x z at))
    spared walls all (inr w) = inr (walled walls all w)

  -- **Where what is noted of the token bore on no decision, the token is spared.**
  pub left_spared : BoreNot net m (the_gone z class) t → IsSparedAt net f (those_in f g) (moment z) t
  left_spared bore = record {
    nodes = f;
    of_turn = inl refl;
    number = x;
    node = z;
    here = at;
    begins = refl;
    row = the_row x z class;
    is = row_told x z class of;
    spared = spared bore.event bore.event_is bore.walls bore.behind bore.spared;
  }
