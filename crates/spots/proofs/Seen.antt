-- What nodes and a network tell of their list: distances, dates, the order and the tokens.
use Rattle.std.proofs.Common.{◌≡◌, ◌∙◌, ℕ, true, false, List, map, Option, Some, None, ap, refl, sym, subst}
use Rattle.std.specs.Prelude.{◌↔◌}
use Rattle.std.specs.Option.{option_map}
use Rattle.std.specs.Ordering.{int_cmp, nat_cmp, ordering_then}
use Rattle.std.specs.Cmp.Lexicographic.{slice_cmp, bytes_decides}
use Rattle.tmm_model.specs.declared.point.PointName.{PointName}
use Rattle.tmm_model.specs.declared.point.PointName.TheVariants.{Start}
use Rattle.tmm_model.specs.declared.token.TokenRow.{TokenRow}
use Rattle.tmm_model.specs.Beliefs.{tokens, token_of}
use Rattle.tmm_model.specs.Bounds.{bound_plus, bound_less}
use Rattle.tmm_model.specs.Moments.{Moment, At, distance, early, occ_cmp, negated, printed, base, low, high, apart}
use Rattle.tmm_model.specs.Points.{same_name}
use Rattle.belief_theory.specs.Right.{Occurs}
use Rattle.tmm_model.specs.Standing.{Standing, far_in}
use Rattle.list_theory.proofs.Elements.{In, In-from_Contains, Contains-from_In, In-filter_map, filter_map-In, In-map, map-In}
use Rattle.dist_net.specs.Net.{Net}
use Rattle.net_theory.proofs.Named.{name_at-is}
use Rattle.net_theory.proofs.Nets.{is_in_use}
use Rattle.net_theory.proofs.Numbers.{number_far, number_same}
use Rattle.spots.specs.declared.spot.Spot.{Spot}
use Rattle.spots.specs.declared.spot.Spot.TheVariants.{Declared, Node}
use Rattle.spots.specs.Forest.{Forest, IsLive, moment, moment_at}
use Rattle.spots.specs.Spots.{IsSpot, spot_moment, spot_distance, node_early, node_cmp, AreTokens, row_moment, token_row, links_of, base_of}
use Rattle.spots.specs.OfLists.{IsForestOf, HasOccurrences}
use Rattle.spots.proofs.Links.{low_is, high_is, apart_is}
use Rattle.spots.proofs.Nodes.{node_at, moment_at-is, point_is, links_are, rules_are}
pub use Rattle.spots.proofs.Believed.{believed_once}
pub use Rattle.spots.proofs.Rows.{IsRowOf, member_of_token, end_there, token_is, class_of_member, class_of_fact, rows_there}

module _ (s : Standing) (net : Net) (f : Forest) (seen : IsForestOf s net f) where
  -- **The distance of two spots is that of their moments.**
  pub distance_is : (p q : Spot) → IsSpot net.names f p → IsSpot net.names f q → spot_distance net f p q ≡ distance s (far_in s.premises) (spot_moment net.names f p) (spot_moment net.names f q)
  distance_is p q at_p at_q =
      let point_p = point_is s net f seen p at_p in
      let point_q = point_is s net f seen q at_q in
      let links_p = links_are s net f seen p at_p in
      let links_q = links_are s net f seen q at_q in
      let rules_p = sym (rules_are s net f seen p at_p) in
      let rules_q = sym (rules_are s net f seen q at_q) in
      let same = number_same s net seen.network (base_of f p) (base_of f q) (base (spot_moment net.names f p)) (base (spot_moment net.names f q)) point_p point_q in
      let far = number_far s net seen.network (base_of f p) (base_of f q) (base (spot_moment net.names f p)) (base (spot_moment net.names f q)) point_p point_q in
      let on_one = apart_is s (links_of f p) (links_of f q) links_p links_q ∙ (λ i. apart s (rules_p i) (rules_q i)) in
      let most = high_is s (links_of f q) links_q ∙ ap (high s) rules_q in
      let least = low_is s (links_of f p) links_p ∙ ap (low s) rules_p in
      λ i. elim (same i) [ true ↦ on_one i | false ↦ bound_less (bound_plus (far i) (most i)) (least i) ]

  pub start_is : spot_moment net.names f (Declared 0) ≡ At Start
  start_is = ap (λ (p : PointName). At p) (name_at-is net.names 0 Start seen.network.start)

  -- **The earliest date of a node is that of its moment.**
  pub early_is : (x : ℕ) → IsLive f x → node_early net f x ≡ early s (far_in s.premises) (moment_at f x)
  early_is x live =
      ap negated (distance_is (Node x) (Declared 0) live (is_in_use net.names 0 Start seen.network.start)
      ∙ ap (λ (y : Moment). distance s (far_in s.premises) (moment_at f x) y) start_is)

  -- **Nodes are in the order of their moments.**
  pub order_is : (x y : ℕ) → IsLive f x → IsLive f y → node_cmp net f x y ≡ occ_cmp s (far_in s.premises) (moment_at f x) (moment_at f y)
  order_is x y live_x live_y =
      let date_x = early_is x live_x in
      let date_y = early_is y live_y in
      λ i. ordering_then (int_cmp (date_x i) (date_y i)) (slice_cmp nat_cmp (printed (moment_at f x)) (printed (moment_at f y)))

  -- a node is an occurrence of the list
  pub occurs_at : (x : ℕ) → IsLive f x → Occurs s (moment_at f x)
  occurs_at x live =
      let (m, here) = node_at f x live in
      subst (Occurs s) (sym (moment_at-is f x m here)) (seen.members x m here).occurs

  -- **The rows of a class are the tokens of that class** among the occurrences that the nodes are.
  pub tokens_are : (b : List Moment) → HasOccurrences b f → (class : List ℕ) (rows : List (TokenRow Spot)) → AreTokens f class rows
      → (k : TokenRow Moment) → In k (map (row_moment net.names f) rows) ↔ (In k (tokens s b) × (same_name class k.class ≡ true))
  tokens_are b holds class rows are k = (to, λ h. from h.0 h.1)
    where
      to : In k (map (row_moment net.names f) rows) → In k (tokens s b) × (same_name class k.class ≡ true)
      to at =
          let (row, there, is) = In-map (row_moment net.names f) rows k at in
          let (x, m, here, made, one) = are.own row (Contains-from_In rows row there) in
          let token : token_of s (moment m) ≡ Some k = token_is s net f seen x m here ∙ ap (option_map (row_moment net.names f)) made ∙ ap (λ (y : TokenRow Moment). Some y) is in
          let class_is : class ≡ k.class = sym one ∙ ap (λ (y : TokenRow Moment). y.class) is in
          (filter_map-In (token_of s) b (moment m) k (In-from_Contains b (moment m) (holds.own x m here)) token, (bytes_decides class k.class).1 class_is)

      made_of : (o : Option (TokenRow Spot)) → option_map (row_moment net.names f) o ≡ Some k → (row : TokenRow Spot) × (o ≡ Some row) × (row_moment net.names f row ≡ k)
      made_of None e = cc
      made_of (Some row) e = (row, refl, cc)

      from : In k (tokens s b) → same_name class k.class ≡ true → In k (map (row_moment net.names f) rows)
      from at same =
          let (y, there, token) = In-filter_map (token_of s) b k at in
          let (x, m, here, is) = holds.all y (Contains-from_In b y there) in
          let (row, made, row_is) = made_of (token_row x m) (sym (token_is s net f seen x m here) ∙ ap (token_of s) is ∙ token) in
          let one : row.class ≡ class = ap (λ (z : TokenRow Moment). z.class) row_is ∙ sym ((bytes_decides class k.class).0 same) in
          subst (λ (z : TokenRow Moment). In z (map (row_moment net.names f) rows)) row_is
          (map-In (row_moment net.names f) rows row (In-from_Contains rows row (are.all x m row here made one)))
