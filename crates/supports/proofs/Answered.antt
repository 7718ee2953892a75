-- What clipping answers over the rows of a class is what the list answers of its tokens.
use Rattle.std.proofs.Common.{◌≡◌, ℕ, ◌<◌, Bool, true, false, ◌&&◌, List, map, refl, sym, ◌∙◌, ap}
use Rattle.std.specs.Prelude.{Option, Some, None, IfSome, length, slice_get, slice_index_or}
use Rattle.std.specs.Option.{option_map, option_and_then}
use Rattle.std.proofs.lemmas.Option.{slice_get-get_or}
use Rattle.std.specs.Ordering.{on}
use Rattle.std.specs.List.{list_any}
use Rattle.std.specs.declared.cmp.Ordering.{Ordering}
use Rattle.tmm_model.specs.declared.bound.Bound.{Bound}
use Rattle.tmm_model.specs.declared.token.TokenRow.{TokenRow}
use Rattle.tmm_model.specs.Answers.{clip, clip_of}
use Rattle.tmm_model.specs.Beliefs.{tokens, token_of, class_of, first_token, has_support, holder}
use Rattle.tmm_model.specs.Moments.{Moment, distance, occ_cmp}
use Rattle.tmm_model.specs.Points.{same_name}
use Rattle.tmm_model.specs.Sorts.{class_in}
use Rattle.tmm_model.specs.Standing.{Standing, far_in}
use Rattle.tmm_model.specs.Tokens.{of_one_class, supports, is_by, lasts_to}
use Rattle.belief_theory.specs.FirstPlaces.{IsFirstPlace}
use Rattle.belief_theory.proofs.ClassTokens.{support_alike}
use Rattle.list_theory.proofs.Elements.{In, both, In-filter_map}
use Rattle.belief_theory.proofs.Order.{ordered}
use Rattle.walk_theory.proofs.Points.{same_name-is}
use Rattle.belief_theory.proofs.Watched.{class-token_of}
use Rattle.dist_net.specs.Net.{Net}
use Rattle.spots.proofs.Nodes.{live_at, moment_at-is}
use Rattle.spots.proofs.Seen.{token_is, distance_is, order_is, tokens_are}
use Rattle.spots.specs.declared.spot.Spot.{Spot}
use Rattle.spots.specs.declared.spot.Spot.TheVariants.{Declared, Node}
use Rattle.spots.specs.Forest.{Forest, Member, member, moment_at}
use Rattle.spots.specs.OfLists.{IsForestOf, HasOccurrences, map_of}
use Rattle.spots.specs.Spots.{IsSpot, spot_moment, spot_distance, spot_cmp, AreTokens, row_moment}
use Rattle.premise_list.specs.Rivalries.{has_rivals}
use Rattle.supports.proofs.NoRivals.{supports_alone}
use Rattle.supports.proofs.FirstRows.{IsSame, first_of_rows, some_of_rows}
use Rattle.clipping.proofs.Moved.{supports_alike}
use Rattle.supports.proofs.TokenRows.{no_row, node_of, spots_there, row_there, row_of, tokens_spelt}

module _ {s : Standing} {net : Net} {f : Forest} (seen : IsForestOf s net f) {class : List ℕ} {rows : List (TokenRow Spot)} (are : AreTokens f class rows)
    {b : List Moment} (holds : HasOccurrences b f) where
  abbrev mom : Spot → Moment
  mom = spot_moment net.names f

  abbrev go : TokenRow Spot → TokenRow Moment
  go = row_moment net.names f

  abbrev far : Spot → Spot → Bound
  far = spot_distance net f

  abbrev gap : Moment → Moment → Bound
  gap = distance s (far_in s.premises)

  abbrev order : Spot → Spot → Ordering
  order = spot_cmp net f

  abbrev moment_order : Moment → Moment → Ordering
  moment_order = occ_cmp s (far_in s.premises)

  abbrev IsThere : Spot → Type 0
  IsThere = IsSpot net.names f

  same_far : (p q : Spot) → IsThere p → IsThere q → far p q ≡ gap (mom p) (mom q)
  same_far = distance_is s net f seen

  class_is : (row : TokenRow Spot) → In row rows → row.class ≡ class
  class_is row at = (node_of seen are row at).3

  -- rows are in the order of their moments
  ranked : (a c : TokenRow Spot) → In a rows → In c rows → order a.spot c.spot ≡ moment_order (go a).spot (go c).spot
  ranked a c at_a at_c =
      let (x, m, one, _) = node_of seen are a at_a in
      let (y, n, other, _) = node_of seen are c at_c in
      let spot = one.spot in
      let end_spot = other.spot in
      (λ i. order (spot i) (end_spot i)) ∙ order_is s net f seen x y (live_at f x m one.here) (live_at f y n other.here) ∙ sym (λ i. moment_order (mom (spot i)) (mom (end_spot i)))

  module _ (test : TokenRow Spot → Bool) (passes : TokenRow Moment → Bool) (tested : (a : TokenRow Spot) → In a rows → test a ≡ passes (go a))
      (own : (k : TokenRow Moment) → In k (tokens s b) → passes k ≡ true → k.class ≡ class) where
    -- the tokens that pass are those of the rows that pass, where tokens that pass are of this
    -- class
    pub same_rows : IsSame order moment_order go rows (tokens s b) test passes
    same_rows = record {
      ranked = ranked;
      tested = tested;
      there = row_there seen are holds;
      own = λ k at passed. row_of seen are holds k at (own k at passed);
    }

    -- then the place of the first row that passes is that of the first token
    pub first_is : (place : Option ℕ) → IsFirstPlace (on (λ k. k.spot) order) test rows place
        → (d : TokenRow Spot) → option_map (λ i. mom (slice_index_or rows i d).spot) place ≡ first_token s (far_in s.premises) b passes
    first_is place h d =
        sym (first_of_rows order moment_order go rows (tokens s b) test passes (ordered s (far_in s.premises)) (tokens_spelt seen holds) same_rows place h d)

  -- ---- support

  -- a row supports a fact exactly where its token does
  supports_same : (fact : List ℕ) (p q : Spot) → IsThere p → IsThere q → (a : TokenRow Spot) → In a rows
      → supports of_one_class far rows fact p q a ≡ supports of_one_class gap (tokens s b) fact (mom p) (mom q) (go a)
  supports_same fact p q at_p at_q a at =
      supports_alike mom far gap IsThere same_far rows (λ c there. (spots_there seen are c there).begin) fact p q at_p at_q a (spots_there seen are a at)
      ∙ support_alike gap class (tokens s b) (map go rows) (tokens_are s net f seen b holds class rows are) fact (mom p) (mom q) (go a) (class_is a at)

  module _ (fact : List ℕ) (in_class : class_in s.premises fact ≡ Some class) (alone : has_rivals s fact ≡ false) (p q : Spot) (at_p : IsThere p) (at_q : IsThere q) where
    -- what supports a fact is of its class
    support_class : (k : TokenRow Moment) → In k (tokens s b) → supports of_one_class gap (tokens s b) fact (mom p) (mom q) k ≡ true → k.class ≡ class
    support_class k at passed =
        let begins = (both (same_name k.fact fact && is_by gap k.spot (mom p)) (lasts_to of_one_class gap (tokens s b) k (mom q) k.end) passed).0 in
        let same = (both (same_name k.fact fact) (is_by gap k.spot (mom p)) begins).0 in
        let one : class_of s fact ≡ class = rw (in_class, class_of) refl in
        let (y, _, is) = In-filter_map (token_of s) b k at in
        class-token_of s y k is ∙ ap (class_of s) (same_name-is k.fact fact same) ∙ one

    -- **The first row that supports a fact** is its first supporter.
    pub holder_is : (place : Option ℕ) → IsFirstPlace (on (λ k. k.spot) order) (supports of_one_class far rows fact p q) rows place
        → (d : TokenRow Spot) → option_map (λ i. mom (slice_index_or rows i d).spot) place ≡ holder s (far_in s.premises) b fact (mom p) (mom q)
    holder_is place h d =
        first_is (supports of_one_class far rows fact p q) (supports of_one_class gap (tokens s b) fact (mom p) (mom q)) (supports_same fact p q at_p at_q) support_class place h d
        ∙ sym (ap (first_token s (far_in s.premises) b) (supports_alone s gap (tokens s b) fact alone (mom p) (mom q)))

    -- **Some row supports a fact** exactly where some token does.
    pub support_is : list_any (supports of_one_class far rows fact p q) rows ≡ has_support s (far_in s.premises) b fact (mom p) (mom q)
    support_is =
        some_of_rows order moment_order go rows (tokens s b) (supports of_one_class far rows fact p q) (supports of_one_class gap (tokens s b) fact (mom p) (mom q))
        (same_rows (supports of_one_class far rows fact p q) (supports of_one_class gap (tokens s b) fact (mom p) (mom q)) (supports_same fact p q at_p at_q) support_class)
        ∙ sym (ap (λ test. list_any test (tokens s b)) (supports_alone s gap (tokens s b) fact alone (mom p) (mom q)))

-- an event has no clip
pub event_unclipped : {s : Standing} {net : Net} {f : Forest} → IsForestOf s net f → (b : List Moment) (x : ℕ) (m : Member) → member f x ≡ Some m → m.class ≡ None → clip (map_of s b) (moment_at f x) ≡ None
event_unclipped {s} {net} {f} seen b x m here none =
    ap (option_and_then (clip_of (map_of s b)))
    (ap (token_of s) (moment_at-is f x m here) ∙ token_is s net f seen x m here ∙ ap (λ o. option_map (row_moment net.names f) (option_map (λ class. record { spot = Node x; end = option_map Declared m.end; fact = m.what; class = class }) o)) none)

-- ---- of the row at a place

-- what is said of the row at a place, at that row
pub row_at : (rows : List (TokenRow Spot)) (i : ℕ) (P : TokenRow Spot → Type 0) → i < length rows → IfSome (slice_get rows i) P → P (slice_index_or rows i no_row)
row_at rows i P lt h = let is : slice_get rows i ≡ Some (slice_index_or rows i no_row) = slice_get-get_or rows i no_row lt in rw is at h
