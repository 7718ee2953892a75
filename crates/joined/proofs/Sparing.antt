-- Where tokens that entered or left bear on no decision at an event, its decisions keep their
-- outcomes.
use Rattle.std.proofs.Common.{◌≡◌, ◌∙◌, ℕ, true, false, not, ◌||◌, List, [], ◌∷◌, refl, sym, ap, subst, inl, inr}
use Rattle.std.specs.Prelude.{◌⊎◌, Option, Some, None, negsuc}
use Rattle.std.specs.List.{Contains}
use Rattle.std.specs.Option.{option_map, ForSome}
use Rattle.tmm_model.specs.declared.bound.Bound.{Bound}
use Rattle.tmm_model.specs.declared.token.TokenRow.{TokenRow}
use Rattle.tmm_model.specs.Beliefs.{token_of, tokens}
use Rattle.tmm_model.specs.Bounds.{bound_at_most}
use Rattle.tmm_model.specs.Moments.{Moment, distance}
use Rattle.tmm_model.specs.Standing.{Standing, far_in}
use Rattle.tmm_model.specs.Tokens.{of_one_class, lasts_to}
use Rattle.list_theory.specs.WellNamed.{IsSound}
use Rattle.list_theory.proofs.Elements.{In, In-from_Contains, Contains-from_In, In-filter, filter-In, In-filter_map, filter_map-In}
use Rattle.belief_theory.specs.Outcomes.{outcome}
use Rattle.belief_theory.specs.Touched.{is_watched, watched}
use Rattle.dist_net.specs.Net.{Net}
use Rattle.spots.specs.declared.spot.Spot.{Spot}
use Rattle.spots.specs.declared.spot.Spot.TheVariants.{Node}
use Rattle.spots.specs.Forest.{Forest, Member, member, moment, moment_at, IsLive}
use Rattle.spots.specs.OfLists.{IsForestOf, HasOccurrences, map_of}
use Rattle.spots.specs.Spots.{IsSpot, spot_moment, spot_distance, row_moment, token_row}
use Rattle.spots.proofs.Nodes.{live_at}
use Rattle.spots.proofs.Seen.{distance_is, end_there, token_is}
use Rattle.clipping.proofs.Moved.{by_alike, cuts_alike}
use Rattle.spots.proofs.TokenSpots.{token_row_spots}
use Rattle.revisions.specs.Walls.{begins_by, has_begun, IsBetween, AreWallsAt, IsPast, IsSpared, IsAside, AllOccur}
use Rattle.revisions.proofs.Walls.{outcome_but}
use Rattle.joined.specs.Gaps.{reads_class, reads_rival}
use Rattle.joined.specs.Sparing.{StaysIn, HasWalls, IsSparedAt}
use Rattle.joined.proofs.Reading.{class_watched, watched_plain, none_rival}

-- ---- at moments

-- the token is believed among both
abbrev pub IsInBoth : Standing → List Moment → List Moment → TokenRow Moment → Type 0
IsInBoth s b c k = In k (tokens s b) × In k (tokens s c)

-- the token bears on no decision of the rule at t: it has not surely begun there, or it is past,
-- and the rule reads no fact that contradicts its own
abbrev pub IsSparedFor : Standing → List Moment → List Moment → Moment → List ℕ → TokenRow Moment → Type 0
IsSparedFor s b c t r k = (has_begun (map_of s b) t k ≡ false) ⊎ (IsPast (IsInBoth s b c) (map_of s b) t k × (reads_rival s r k.fact ≡ false))

-- so does a token that x is, and that the rule watches
abbrev pub IsSparedIn : Standing → List Moment → List Moment → Moment → List ℕ → Moment → Type 0
IsSparedIn s b c t r x = (k : TokenRow Moment) → token_of s x ≡ Some k → is_watched s r k ≡ true → IsSparedFor s b c t r k

pub spared_for : (s : Standing) (b c : List Moment) (t : Moment) (r : List ℕ) (k : TokenRow Moment) → IsSpared (IsInBoth s b c) (map_of s b) t k → reads_rival s r k.fact ≡ false
    → IsSparedFor s b c t r k
spared_for s b c t r k (inl not_begun) none = inl not_begun
spared_for s b c t r k (inr past) none = inr (past, none)

module _ (s : Standing) (b c : List Moment) (t : Moment) (r : List ℕ) where
  abbrev stays : TokenRow Moment → Type 0
  stays k = In k (watched (map_of s b) r) × In k (watched (map_of s c) r)

  -- a token of a class that the rule reads is watched
  watched_class : (k w : TokenRow Moment) → w.class ≡ k.class → reads_class s r k.class ≡ true → is_watched s r w ≡ true
  watched_class k w class reads = class_watched s r w (ap (reads_class s r) class ∙ reads)

  stays_watched : (k : TokenRow Moment) → IsInBoth s b c k → is_watched s r k ≡ true → stays k
  stays_watched k (in_b, in_c) reads = (filter-In (is_watched s r) (tokens s b) k in_b reads, filter-In (is_watched s r) (tokens s c) k in_c reads)

  past : (k : TokenRow Moment) → reads_class s r k.class ≡ true → IsPast (IsInBoth s b c) (map_of s b) t k → (d : List Moment) → IsPast (λ w. In w (watched (map_of s b) r) × In w (watched (map_of s c) r)) (map_of s d) t k
  past k reads p d = record {
    one = p.one;
    other = p.other;
    one_stays = stays_watched p.one p.one_stays (watched_class k p.one p.walls.one.class reads);
    other_stays = stays_watched p.other p.other_stays (watched_class k p.other p.walls.other.class reads);
    walls = p.walls;
  }

  -- what is spared is so by those that stay, in either map
  abbrev Spared : (d : List Moment) → TokenRow Moment → Type 0
  Spared d k = (has_begun (map_of s d) t k ≡ false) ⊎ (IsPast (λ w. In w (watched (map_of s b) r) × In w (watched (map_of s c) r)) (map_of s d) t k × (reads_rival s r k.fact ≡ false))

  spared : (k : TokenRow Moment) → is_watched s r k ≡ true → IsSparedFor s b c t r k → (d : List Moment) → Spared d k
  spared k reads (inl not_begun) d = inl not_begun
  spared k reads (inr (p, none)) d = inr (past k (sym (watched_plain s r k none) ∙ reads) p d, none)

  aside : (d : List Moment) (k : TokenRow Moment) → Spared d k → IsAside (λ w. In w (watched (map_of s b) r) × In w (watched (map_of s c) r)) (map_of s d) t r k
  aside d k (inl not_begun) = inl not_begun
  aside d k (inr (p, none)) = inr (p, none_rival s r k.fact none)

  -- a token among the one list is among the other, or spared
  cases : (d e : List Moment) → ((x : Moment) → Contains d x → Contains e x ⊎ IsSparedIn s b c t r x) → (k : TokenRow Moment) → In k (watched (map_of s d) r)
      → In k (watched (map_of s e) r) ⊎ ((o : List Moment) → Spared o k)
  cases d e goes k at =
      let (in_d, reads) = In-filter (is_watched s r) (tokens s d) k at in
      let (x, there, is) = In-filter_map (token_of s) d k in_d in
      elim (goes x (Contains-from_In d x there)) [
        | inl in_e ↦ inl (filter-In (is_watched s r) (tokens s e) k (filter_map-In (token_of s) e x k (In-from_Contains e x in_e) is) reads)
        | inr of ↦ inr (λ o. spared k reads (of k is reads) o)
      ]

  -- **Where all tokens that a rule watches are among both lists, or are spared at t, it has one
  -- outcome there.**
  pub spared_stay : IsSound s → AllOccur s b → AllOccur s c
      → ((x : Moment) → Contains b x → Contains c x ⊎ IsSparedIn s b c t r x)
      → ((x : Moment) → Contains c x → Contains b x ⊎ IsSparedIn s b c t r x)
      → outcome s (far_in s.premises) b t r ≡ outcome s (far_in s.premises) c t r
  spared_stay sound occur_b occur_c goes comes =
      outcome_but s s b c t r (λ k. In k (watched (map_of s b) r) × In k (watched (map_of s c) r)) sound sound occur_b occur_c (record {
        text = refl;
        timely = refl;
        here = λ k stay. stay.0;
        there = λ k stay. stay.1;
        before = λ k at. elim (cases b c goes k at) [ inl in_c ↦ inl (at, in_c) | inr of ↦ inr (aside b k (of b)) ];
        after = λ k at. elim (cases c b comes k at) [ inl in_b ↦ inl (in_b, at) | inr of ↦ inr (aside c k (of c)) ];
        begun = λ k stay. refl;
        ended = λ k e stay is. refl;
        clipped = λ k c stay_k stay_c given. refl;
        ordered = λ k c stay_k stay_c one. refl;
      })

-- ---- from nodes to moments

module _ (s : Standing) (net : Net) (nodes : Forest) (seen : IsForestOf s net nodes) where
  abbrev far : Spot → Spot → Bound
  far = spot_distance net nodes

  abbrev apart : Moment → Moment → Bound
  apart = distance s (far_in s.premises)

  abbrev go : Spot → Moment
  go = spot_moment net.names nodes

  abbrev at_moment : TokenRow Spot → TokenRow Moment
  at_moment = row_moment net.names nodes

  abbrev alike : (p q : Spot) → IsSpot net.names nodes p → IsSpot net.names nodes q → spot_distance net nodes p q ≡ distance s (far_in s.premises) (spot_moment net.names nodes p) (spot_moment net.names nodes q)
  alike = distance_is s net nodes seen

  -- the token of a node begins and ends at spots that are there
  record IsThere (k : TokenRow Spot) : Type 0 where
    begin : IsSpot net.names nodes k.spot
    «end» : ForSome k.end (IsSpot net.names nodes)

  there : (y : ℕ) (n : Member) (k : TokenRow Spot) → member nodes y ≡ Some n → token_row y n ≡ Some k → IsThere k
  there y n k here is =
      let spots = token_row_spots y n k is in
      record {
        begin = subst (IsSpot net.names nodes) (sym spots.0) (live_at nodes y n here);
        «end» = subst (λ o. ForSome o (IsSpot net.names nodes)) (sym spots.1) (end_there s net nodes seen y n here);
      }

  -- it is the token at the node's moment
  at_node : (y : ℕ) (n : Member) (k : TokenRow Spot) → member nodes y ≡ Some n → token_row y n ≡ Some k → token_of s (moment n) ≡ Some (row_moment net.names nodes k)
  at_node y n k here is = token_is s net nodes seen y n here ∙ ap (option_map (row_moment net.names nodes)) is

  module _ (t : ℕ) (live : IsLive nodes t) where
    begins_alike : (k : TokenRow Spot) → IsThere k → begins_by (spot_distance net nodes) (Node t) k ≡ begins_by (distance s (far_in s.premises)) (moment_at nodes t) (row_moment net.names nodes k)
    begins_alike k k_there = by_alike go far apart (IsSpot net.names nodes) alike k.spot (Node t) k_there.begin live

    lasts_alike : (k v w : TokenRow Spot) → IsThere k → IsThere v → IsThere w → (o : Option Spot) → ForSome o (IsSpot net.names nodes)
        → lasts_to of_one_class (spot_distance net nodes) (v ∷ w ∷ []) k (Node t) o
        ≡ lasts_to of_one_class (distance s (far_in s.premises)) (row_moment net.names nodes v ∷ row_moment net.names nodes w ∷ []) (row_moment net.names nodes k) (moment_at nodes t) (option_map (spot_moment net.names nodes) o)
    lasts_alike k v w at_k at_v at_w None ends =
        let one = cuts_alike go far apart (IsSpot net.names nodes) alike k (Node t) v at_k.begin live at_v.begin in
        let other = cuts_alike go far apart (IsSpot net.names nodes) alike k (Node t) w at_k.begin live at_w.begin in
        λ i. not (one i || (other i || false))
    lasts_alike k v w at_k at_v at_w (Some e) ends = ap (λ d. bound_at_most d (negsuc 0)) (alike e (Node t) (ends e refl) live)

    between_alike : (k w : TokenRow Spot) → IsThere k → IsThere w → IsBetween (spot_distance net nodes) (Node t) k w
        → IsBetween (distance s (far_in s.premises)) (moment_at nodes t) (row_moment net.names nodes k) (row_moment net.names nodes w)
    between_alike k w at_k at_w is = record {
      class = is.class;
      after = sym (by_alike go far apart (IsSpot net.names nodes) alike k.spot w.spot at_k.begin at_w.begin) ∙ is.after;
      begun = sym (begins_alike w at_w) ∙ is.begun;
    }

    walls_alike : (k v w : TokenRow Spot) → IsThere k → IsThere v → IsThere w → AreWallsAt (spot_distance net nodes) (Node t) k v w
        → AreWallsAt (distance s (far_in s.premises)) (moment_at nodes t) (row_moment net.names nodes k) (row_moment net.names nodes v) (row_moment net.names nodes w)
    walls_alike k v w at_k at_v at_w walls = record {
      one = between_alike k v at_k at_v walls.one;
      other = between_alike k w at_k at_w walls.other;
      differ = walls.differ;
      over = sym (lasts_alike k v w at_k at_v at_w k.end at_k.«end») ∙ walls.over;
    }

-- ---- in a turn

module _ (s : Standing) (net : Net) (f g nodes : Forest) (seen : IsForestOf s net nodes) (b c : List Moment) (holds_b : HasOccurrences b f) (holds_c : HasOccurrences c g)
    (has : (y : ℕ) (n : Member) → member f y ≡ Some n → member g y ≡ Some n → member nodes y ≡ Some n) where
  -- a token that stays is there, and believed before and after
  staying : (w : TokenRow Spot) (stay : StaysIn f g w) → IsThere s net nodes seen w × IsInBoth s b c (row_moment net.names nodes w)
  staying w stay =
      let here = has stay.number stay.node stay.before stay.after in
      let is = at_node s net nodes seen stay.number stay.node w here stay.is in (
        there s net nodes seen stay.number stay.node w here stay.is,
        (
          filter_map-In (token_of s) b (moment stay.node) (row_moment net.names nodes w) (In-from_Contains b (moment stay.node) (holds_b.own stay.number stay.node stay.before)) is,
          filter_map-In (token_of s) c (moment stay.node) (row_moment net.names nodes w) (In-from_Contains c (moment stay.node) (holds_c.own stay.number stay.node stay.after)) is,
        ),
      )

  walled : (t : ℕ) → IsLive nodes t → (k : TokenRow Spot) → IsThere s net nodes seen k → HasWalls net f g nodes t k → IsPast (IsInBoth s b c) (map_of s b) (moment_at nodes t) (row_moment net.names nodes k)
  walled t live k at_k walls =
      let one = staying walls.one walls.one_stays in
      let other = staying walls.other walls.other_stays in
      record {
        one = row_moment net.names nodes walls.one;
        other = row_moment net.names nodes walls.other;
        one_stays = one.1;
        other_stays = other.1;
        walls = walls_alike s net nodes seen t live k walls.one walls.other at_k one.0 other.0 walls.walls;
      }

  -- the token of a node of the turn is spared at a moment where it is at the node of it
  spared_node : (t : ℕ) → IsLive nodes t → (y : ℕ) (n : Member) (k : TokenRow Spot) → member nodes y ≡ Some n → token_row y n ≡ Some k
      → (begins_by (spot_distance net nodes) (Node t) k ≡ false) ⊎ HasWalls net f g nodes t k
      → (m : TokenRow Moment) → token_of s (moment n) ≡ Some m → IsSpared (IsInBoth s b c) (map_of s b) (moment_at nodes t) m
  spared_node t live y n k here is how m is_m = subst (IsSpared (IsInBoth s b c) (map_of s b) (moment_at nodes t)) one (by how)
    where
      one : row_moment net.names nodes k ≡ m
      one = let both : Some (row_moment net.names nodes k) ≡ Some m = sym (at_node s net nodes seen y n k here is) ∙ is_m in cc

      at_k : IsThere s net nodes seen k
      at_k = there s net nodes seen y n k here is

      by : (begins_by (spot_distance net nodes) (Node t) k ≡ false) ⊎ HasWalls net f g nodes t k → IsSpared (IsInBoth s b c) (map_of s b) (moment_at nodes t) (row_moment net.names nodes k)
      by (inl not_begun) = inl (sym (begins_alike s net nodes seen t live k at_k) ∙ not_begun)
      by (inr walls) = inr (walled t live k at_k walls)

-- **What is spared at a node is spared at its moment.**
pub spared_at : (s : Standing) (net : Net) (f g : Forest) → IsForestOf s net f → IsForestOf s net g → (b c : List Moment) → HasOccurrences b f → HasOccurrences c g
    → (t : ℕ) (node : Member) → member f t ≡ Some node → member g t ≡ Some node → (x : Moment) → IsSparedAt net f g x t
    → (k : TokenRow Moment) → token_of s x ≡ Some k → IsSpared (IsInBoth s b c) (map_of s b) (moment_at g t) k
spared_at s net f g seen_f seen_g b c holds_b holds_c t node at_f at_g x of k is = by of.of_turn
  where
    at : (nodes : Forest) → of.nodes ≡ nodes → IsForestOf s net nodes → member nodes t ≡ Some node
        → ((y : ℕ) (n : Member) → member f y ≡ Some n → member g y ≡ Some n → member nodes y ≡ Some n) → IsSpared (IsInBoth s b c) (map_of s b) (moment_at nodes t) k
    at nodes same seen here has =
        spared_node s net f g nodes seen b c holds_b holds_c has t (live_at nodes t node here) of.number of.node of.row (ap (λ (z : Forest). member z of.number) (sym same) ∙ of.here) of.is
        (subst (λ (z : Forest). (begins_by (spot_distance net z) (Node t) of.row ≡ false) ⊎ HasWalls net f g z t of.row) same of.spared) k (ap (token_of s) of.begins ∙ is)

    one : moment_at f t ≡ moment_at g t
    one = ap (λ (o : Option Member). at_some o) (at_f ∙ sym at_g)
      where
        at_some : Option Member → Moment
        at_some o = moment_at (λ _. o) t

    by : (of.nodes ≡ f) ⊎ (of.nodes ≡ g) → IsSpared (IsInBoth s b c) (map_of s b) (moment_at g t) k
    by (inl same) = subst (λ z. IsSpared (IsInBoth s b c) (map_of s b) z k) one (at f same seen_f at_f (λ y n here_f here_g. here_f))
    by (inr same) = at g same seen_g at_g (λ y n here_f here_g. here_g)
