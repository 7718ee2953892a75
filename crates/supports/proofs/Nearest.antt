-- The nearest token behind a node that clips it is its clip.
use Rattle.std.proofs.Common.{◌≡◌, ℕ, ◌+◌, ◌<◌, true, false, not, List, ◌∷◌, ◌++◌, refl, sym, ◌∙◌, ap, subst}
use Rattle.std.specs.Prelude.{Option, Some, None, IsNone, MatchOption, length, take, drop, slice_index_or}
use Rattle.std.specs.List.{Contains}
use Rattle.std.specs.List.Sorted.{IsStrictlySortedBy}
use Rattle.std.specs.Option.{option_map, option_and_then}
use Rattle.std.specs.Ordering.{is_gt, on, ordering_reverse}
use Rattle.std.specs.declared.cmp.Ordering.{Ordering}
use Rattle.std.specs.declared.cmp.Ordering.TheVariants.{Less, Equal, Greater}
use Rattle.std.proofs.lemmas.List.{drop_more, take-append-drop}
use Rattle.tmm_model.specs.declared.bound.Bound.{Bound}
use Rattle.tmm_model.specs.declared.token.TokenRow.{TokenRow}
use Rattle.tmm_model.specs.Answers.{clip, first_believed}
use Rattle.tmm_model.specs.Beliefs.{tokens, token_of}
use Rattle.tmm_model.specs.Moments.{Moment, base, distance, occ_cmp}
use Rattle.tmm_model.specs.Points.{same_name}
use Rattle.tmm_model.specs.Standing.{Standing, far_in}
use Rattle.tmm_model.specs.Tokens.{of_one_class, clips, is_before}
use Rattle.list_theory.proofs.Elements.{In, both, In-from_Contains, Contains-from_In, In-filter_map, filter_map-In}
use Rattle.belief_theory.proofs.Order.{ordered, total}
use Rattle.walk_theory.proofs.Points.{same_name-is}
use Rattle.clipping.specs.Lasts.{IsLastPlace}
use Rattle.dist_net.specs.Net.{Net}
use Rattle.spots.specs.declared.spot.Spot.{Spot}
use Rattle.spots.specs.Forest.{Forest, Member, member, IsLive, moment, moment_at}
use Rattle.spots.specs.OfLists.{IsForestOf, HasOccurrences, map_of}
use Rattle.spots.specs.Spots.{IsSpot, spot_moment, spot_distance, spot_cmp, node_cmp, token_row, row_moment}
use Rattle.spots.proofs.Nodes.{node_at, live_at, moment_at-is, base-moment}
use Rattle.spots.proofs.Seen.{token_is, distance_is, order_is, occurs_at}
use Rattle.supports.specs.Behind.{token_at, rows_behind, IsLastNode}
use Rattle.supports.specs.Clips.{clip_by}
use Rattle.supports.proofs.Answered.{event_unclipped}
use Rattle.supports.proofs.Behind.{token_made, node_of_token, spot_of, In-behind, behind-In, rows_fall}
use Rattle.supports.proofs.Falling.{stands_behind, sorted_back, last_is_first}
use Rattle.supports.proofs.FirstRows.{first_of_rows}
use Rattle.supports.proofs.Later.{comes_after}
use Rattle.clipping.proofs.Moved.{clips_alike}
use Rattle.supports.proofs.TokenRows.{no_row, tokens_spelt}

-- what is before another is not behind it
opposite : (o r : Ordering) → o ≡ ordering_reverse r → o ≡ Less → r ≡ Less → ⊥
opposite o Less e less more = cc
opposite o Equal e less more = cc
opposite o Greater e less more = cc

not_after_itself : (o : Ordering) → o ≡ ordering_reverse o → is_gt o ≡ false
not_after_itself Less e = refl
not_after_itself Equal e = refl
not_after_itself Greater e = cc

module _ {s : Standing} {net : Net} {f : Forest} (seen : IsForestOf s net f) {b : List Moment} (holds : HasOccurrences b f) where
  abbrev mom : Spot → Moment
  mom = spot_moment net.names f

  abbrev go : TokenRow Spot → TokenRow Moment
  go = row_moment net.names f

  abbrev far : Spot → Spot → Bound
  far = spot_distance net f

  abbrev gap : Moment → Moment → Bound
  gap = distance s (far_in s.premises)

  abbrev order : Spot → Spot → Ordering
  order = spot_cmp net f

  abbrev moment_order : Moment → Moment → Ordering
  moment_order = occ_cmp s (far_in s.premises)

  -- ---- tokens of nodes

  live_token : (x : ℕ) (row : TokenRow Spot) → token_at f x ≡ Some row → IsLive f x
  live_token x row is = let (m, here, _) = node_of_token f x row is in live_at f x m here

  pub there_token : (x : ℕ) (row : TokenRow Spot) → token_at f x ≡ Some row → IsSpot net.names f row.spot
  there_token x row is = subst (IsSpot net.names f) (sym (spot_of f x row is)) (live_token x row is)

  -- at its moment a node is the token of the list
  pub token_there : (x : ℕ) (row : TokenRow Spot) → token_at f x ≡ Some row → token_of s (moment_at f x) ≡ Some (go row)
  token_there x row is =
      let (m, here, made) = node_of_token f x row is in
      ap (token_of s) (moment_at-is f x m here) ∙ token_is s net f seen x m here ∙ ap (option_map (row_moment net.names f)) made

  -- and each believed token is that of a node
  node_there : (k : TokenRow Moment) → In k (tokens s b) → (x : ℕ) × (row : TokenRow Spot) × (token_at f x ≡ Some row) × (go row ≡ k)
  node_there k at =
      let (y, among, is) = In-filter_map (token_of s) b k at in
      let (x, m, here, same) = holds.all y (Contains-from_In b y among) in
      let (row, made, row_is) = by (token_row x m) (sym (token_is s net f seen x m here) ∙ ap (token_of s) same ∙ is) in
      (x, row, ap (option_and_then (token_row x)) here ∙ made, row_is)
    where
      by : (o : Option (TokenRow Spot)) → option_map (row_moment net.names f) o ≡ Some k → (row : TokenRow Spot) × (o ≡ Some row) × (row_moment net.names f row ≡ k)
      by None e = cc
      by (Some row) e = (row, refl, cc)

  ranked_at : (x y : ℕ) (a c : TokenRow Spot) → token_at f x ≡ Some a → token_at f y ≡ Some c → order a.spot c.spot ≡ moment_order (go a).spot (go c).spot
  ranked_at x y a c is_a is_c =
      let spot = spot_of f x a is_a in
      let other = spot_of f y c is_c in
      (λ i. order (spot i) (other i)) ∙ order_is s net f seen x y (live_token x a is_a) (live_token y c is_c) ∙ sym (λ i. moment_order (mom (spot i)) (mom (other i)))

  -- ---- what stands behind a node

  module _ (front : List ℕ) (x : ℕ) (back : List ℕ) (up : IsStrictlySortedBy (node_cmp net f) (front ++ x ∷ back))
      (row : TokenRow Spot) (is : token_at f x ≡ Some row) (all : (y : ℕ) (c : TokenRow Spot) → token_at f y ≡ Some c → c.class ≡ row.class → In y (front ++ x ∷ back)) where
    abbrev rows : List (TokenRow Spot)
    rows = rows_behind f row.class back

    -- what clips the node stands behind it
    clips_behind : (y : ℕ) (c : TokenRow Spot) → token_at f y ≡ Some c → c.class ≡ row.class → is_before gap (go row).spot (go c).spot ≡ true → In y back
    clips_behind y c is_c own before =
        stands_behind (node_cmp net f) front x back up y after (λ same. after (subst (λ z. node_cmp net f z x ≡ Less) same (subst (λ z. node_cmp net f x z ≡ Less) (sym same) less))) (all y c is_c own)
      where
        less : node_cmp net f x y ≡ Less
        less =
            let (m, here, _) = node_of_token f x row is in
            let begins = moment_at-is f x m here in
            order_is s net f seen x y (live_token x row is) (live_token y c is_c)
            ∙ comes_after s seen.network.sound (moment_at f x) (moment_at f y) m.root (occurs_at s net f seen x (live_token x row is)) (ap base begins ∙ base-moment m)
            (subst (λ p. is_before gap p (moment_at f y) ≡ true) (ap mom (spot_of f x row is)) (subst (λ q. is_before gap (go row).spot q ≡ true) (ap mom (spot_of f y c is_c)) before))

        after : node_cmp net f y x ≡ Less → ⊥
        after more =
            opposite (moment_order (moment_at f x) (moment_at f y)) (moment_order (moment_at f y) (moment_at f x)) ((total s (far_in s.premises)).antisymm (moment_at f x) (moment_at f y))
            (sym (order_is s net f seen x y (live_token x row is) (live_token y c is_c)) ∙ less)
            (sym (order_is s net f seen y x (live_token y c is_c) (live_token x row is)) ∙ more)

    -- **The last that clips it among those behind** is the first that does.
    first_is : (place : Option ℕ) → IsLastPlace (clips of_one_class far row) rows place
        → (d : TokenRow Spot) → option_map (λ i. mom (slice_index_or rows i d).spot) place ≡ first_believed (map_of s b) (clips of_one_class gap (go row))
    first_is place h d =
        sym (first_of_rows order moment_order go rows (tokens s b) (clips of_one_class far row) (clips of_one_class gap (go row)) (ordered s (far_in s.premises)) (tokens_spelt seen holds)
        (record { ranked = ranked; tested = tested; there = there; own = own }) place
        (last_is_first (on (λ k. k.spot) order) (clips of_one_class far row) rows (rows_fall f row.class order back (sorted_back (node_cmp net f) front x back up)) itself place h) d)
      where
        ranked : (a c : TokenRow Spot) → In a rows → In c rows → order a.spot c.spot ≡ moment_order (go a).spot (go c).spot
        ranked a c at_a at_c =
            let (y, _, is_a, _) = In-behind f row.class back a at_a in
            let (z, _, is_c, _) = In-behind f row.class back c at_c in
            ranked_at y z a c is_a is_c

        itself : (a : TokenRow Spot) → In a rows → is_gt (order a.spot a.spot) ≡ false
        itself a at =
            ap is_gt (ranked a a at at)
            ∙ not_after_itself (moment_order (go a).spot (go a).spot) ((total s (far_in s.premises)).antisymm (go a).spot (go a).spot)

        tested : (a : TokenRow Spot) → In a rows → clips of_one_class far row a ≡ clips of_one_class gap (go row) (go a)
        tested a at =
            let (y, _, is_a, _) = In-behind f row.class back a at in
            clips_alike mom far gap (IsSpot net.names f) (distance_is s net f seen) row a (there_token x row is) (there_token y a is_a)

        there : (a : TokenRow Spot) → In a rows → In (go a) (tokens s b)
        there a at =
            let (y, _, is_a, _) = In-behind f row.class back a at in
            let (m, here, _) = node_of_token f y a is_a in
            filter_map-In (token_of s) b (moment m) (go a) (In-from_Contains b (moment m) (holds.own y m here))
            (ap (token_of s) (sym (moment_at-is f y m here)) ∙ token_there y a is_a)

        own : (k : TokenRow Moment) → In k (tokens s b) → clips of_one_class gap (go row) k ≡ true → (a : TokenRow Spot) × In a rows × (go a ≡ k)
        own k at passed =
            let (y, a, is_a, same) = node_there k at in
            let (differ, before) = both (of_one_class (go row) (go a)) (is_before gap (go row).spot (go a).spot) (subst (λ z. clips of_one_class gap (go row) z ≡ true) (sym same) passed) in
            let one = same_name-is row.class a.class (both (same_name row.class a.class) (not (same_name row.fact a.fact)) differ).0 in
            (a, behind-In f row.class back y a (clips_behind y a is_a (sym one) before) is_a (sym one), same)

    nearest : (found : Option ℕ) → MatchOption row.end (IsLastNode (clips of_one_class far row) rows found) (λ _. IsNone found)
        → option_map (moment_at f) found ≡ option_and_then (clip_by of_one_class (map_of s b)) (token_of s (moment_at f x))
    nearest found h = by row.end h ∙ sym (ap (option_and_then (clip_by of_one_class (map_of s b))) (token_there x row is))
      where
        no_node : (found : Option ℕ) → IsNone found → option_map (moment_at f) found ≡ None
        no_node None h = refl
        no_node (Some y) h = cc

        last : (found : Option ℕ) → IsLastNode (clips of_one_class far row) rows found → option_map (moment_at f) found ≡ first_believed (map_of s b) (clips of_one_class gap (go row))
        last None h = first_is None h no_row
        last (Some y) (i, at, spot) = ap (λ p. Some (mom p)) (sym (spot no_row)) ∙ first_is (Some i) at no_row

        by : (o : Option Spot) → MatchOption o (IsLastNode (clips of_one_class far row) rows found) (λ _. IsNone found)
            → option_map (moment_at f) found ≡ elim (option_map mom o) [ Some e ↦ None | None ↦ first_believed (map_of s b) (clips of_one_class gap (go row)) ]
        by (Some e) h = no_node found h
        by None h = last found h

  -- **The nearest token behind a node that clips it** is its clip by its class, among nodes with
  -- all tokens of this.
  pub nearest_is : (nodes : List ℕ) (i : ℕ) → i < length nodes → IsStrictlySortedBy (node_cmp net f) nodes
      → (row : TokenRow Spot) → token_at f (slice_index_or nodes i 0) ≡ Some row
      → ((y : ℕ) (c : TokenRow Spot) → token_at f y ≡ Some c → c.class ≡ row.class → Contains nodes y)
      → (found : Option ℕ) → MatchOption row.end (IsLastNode (clips of_one_class far row) (rows_behind f row.class (drop (i + 1) nodes)) found) (λ _. IsNone found)
      → option_map (moment_at f) found ≡ option_and_then (clip_by of_one_class (map_of s b)) (token_of s (moment_at f (slice_index_or nodes i 0)))
  nearest_is nodes i lt up row is all =
      let parted : nodes ≡ take i nodes ++ slice_index_or nodes i 0 ∷ drop (i + 1) nodes = sym (take-append-drop i nodes) ∙ ap (λ l. take i nodes ++ l) (drop_more nodes i 0 lt) in
      nearest (take i nodes) (slice_index_or nodes i 0) (drop (i + 1) nodes) (subst (IsStrictlySortedBy (node_cmp net f)) parted up) row is
      (λ y c is_c own. subst (In y) parted (In-from_Contains nodes y (all y c is_c own)))

-- among all nodes is each token of a class
pub tokens_among : (f : Forest) (nodes : List ℕ) → ((y : ℕ) → IsLive f y → Contains nodes y) → (class : List ℕ) (y : ℕ) (c : TokenRow Spot) → token_at f y ≡ Some c → c.class ≡ class → Contains nodes y
tokens_among f nodes all class y c is own = let (m, here, _) = node_of_token f y c is in all y (live_at f y m here)

-- a node that is no token has no clip
pub event_has_none : {s : Standing} {net : Net} {f : Forest} → IsForestOf s net f → (b : List Moment) (x : ℕ) → IsLive f x → token_at f x ≡ None → clip (map_of s b) (moment_at f x) ≡ None
event_has_none {s} {net} {f} seen b x live none = let (m, here) = node_at f x live in event_unclipped seen b x m here (by m here m.class refl)
  where
    by : (m : Member) → member f x ≡ Some m → (o : Option (List ℕ)) → m.class ≡ o → m.class ≡ None
    by m here None is = is
    by m here (Some class) is = let token = token_made f x m (Some class) here is in cc
