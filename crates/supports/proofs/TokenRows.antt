-- The rows of a class are tokens of the list: where they stand, and what they are at moments.
use Rattle.std.proofs.Common.{◌≡◌, ℕ, ◌<◌, true, List, [], length, sym, ◌∙◌, ap, subst}
use Rattle.std.specs.Prelude.{Option, Some, None, slice_index_or}
use Rattle.std.specs.List.{All}
use Rattle.std.specs.Option.{option_map, option_map_or, ForSome}
use Rattle.std.proofs.lemmas.List.Elements.{All-contains, Contains-get_or}
use Rattle.std.specs.Cmp.Lexicographic.{nat_list_eq_equiv}
use Rattle.tmm_model.specs.declared.token.TokenRow.{TokenRow}
use Rattle.tmm_model.specs.Beliefs.{token_of, tokens}
use Rattle.tmm_model.specs.Moments.{Moment}
use Rattle.tmm_model.specs.Points.{same_name}
use Rattle.tmm_model.specs.Standing.{Standing}
use Rattle.list_theory.proofs.Elements.{In, In-from_Contains, Contains-from_In, In-filter_map, map-In, In-map}
use Rattle.belief_theory.proofs.OneRight.{spot-token_of}
use Rattle.belief_theory.proofs.Order.{IsSpelt}
use Rattle.belief_theory.proofs.Spelt.{spelt}
use Rattle.clipping.specs.Live.{IsLive as HasLiveSpots}
use Rattle.dist_net.specs.Net.{Net}
use Rattle.spots.proofs.Nodes.{moment_at-is}
use Rattle.spots.proofs.TokenSpots.{token_row_spots}
use Rattle.spots.proofs.Seen.{tokens_are, IsRowOf, member_of_token, token_is, rows_there}
use Rattle.spots.specs.declared.spot.Spot.{Spot}
use Rattle.spots.specs.declared.spot.Spot.TheVariants.{Declared, Node}
use Rattle.spots.specs.Forest.{Forest, Member, member, moment, moment_at, IsLive}
use Rattle.spots.specs.OfLists.{IsForestOf, HasOccurrences}
use Rattle.spots.specs.Spots.{IsSpot, AreTokens, token_row, row_moment}
use Rattle.occ_tree.specs.Dated.{IsKnown}
use Rattle.occ_tree.specs.OfLists.{IsTreeOf}
use Rattle.occ_tree.specs.Places.{forest}
use Rattle.occ_tree.specs.Standing.{Kept, present}
use Rattle.supports.specs.Nodes.{IsOfNode}

-- what is read beyond the end of the rows
abbrev pub no_row : TokenRow Spot
no_row = record { spot = Node 0; end = None; fact = []; class = [] }

module _ {s : Standing} {net : Net} {f : Forest} (seen : IsForestOf s net f) {class : List ℕ} {rows : List (TokenRow Spot)} (are : AreTokens f class rows) where
  -- ---- nodes of rows

  -- the node of a row
  pub node_of : (row : TokenRow Spot) → In row rows → (x : ℕ) × (m : Member) × IsRowOf f row x m × (row.class ≡ class)
  node_of row at = member_of_token f class rows are row (Contains-from_In rows row at)

  -- it has the node's fact
  pub fact_is : (row : TokenRow Spot) → In row rows → (x : ℕ) → row.spot ≡ Node x → (m : Member) → member f x ≡ Some m → row.fact ≡ m.what
  fact_is row at x spot m here =
      let (y, n, is, _) = node_of row at in
      let node : Node y ≡ Node x = sym is.spot ∙ spot in
      let one : y ≡ x = cc in
      let same : Some n ≡ Some m = sym is.here ∙ ap (member f) one ∙ here in
      is.fact ∙ ap (λ o. option_map_or (λ z. z.what) o []) same

  -- ---- spots of rows

  -- a row begins and ends at spots that are there
  pub spots_there : (row : TokenRow Spot) → In row rows → HasLiveSpots (IsSpot net.names f) row
  spots_there row at =
      let there = All-contains (λ row. IsSpot net.names f row.spot × ForSome row.end (IsSpot net.names f)) rows row (rows_there s net f seen class rows are) (Contains-from_In rows row at) in
      record { begin = there.0; «end» = there.1 }

  -- what stands at a place is a row
  pub at_place : (i : ℕ) (d : TokenRow Spot) → i < length rows → In (slice_index_or rows i d) rows
  at_place i d lt = In-from_Contains rows (slice_index_or rows i d) (Contains-get_or rows i d lt)

  -- each begins at a node
  pub rows_of_nodes : All IsOfNode rows
  rows_of_nodes i d lt = let (x, _, is, _) = node_of (slice_index_or rows i d) (at_place i d lt) in (x, is.spot)

  -- the node at a place is live
  pub live_at_place : (i x : ℕ) → i < length rows → ((d : TokenRow Spot) → (slice_index_or rows i d).spot ≡ Node x) → IsLive f x
  live_at_place i x lt spot = subst (IsSpot net.names f) (spot no_row) (spots_there (slice_index_or rows i no_row) (at_place i no_row lt)).begin

  -- ---- rows at moments

  -- the token that begins where a row does
  pub row_token : (x : ℕ) (row : TokenRow Spot) → In row rows → row.spot ≡ Node x → token_of s (moment_at f x) ≡ Some (row_moment net.names f row)
  row_token x row at spot =
      let (y, m, here, made, _) = are.own row (Contains-from_In rows row at) in
      let begins : Node y ≡ Node x = sym (token_row_spots y m row made).0 ∙ spot in
      let one : y ≡ x = cc in
      ap (token_of s) (ap (moment_at f) (sym one) ∙ moment_at-is f y m here) ∙ token_is s net f seen y m here ∙ ap (option_map (row_moment net.names f)) made

  module _ {b : List Moment} (holds : HasOccurrences b f) where
    -- at moments a row is a token among the occurrences
    pub row_there : (row : TokenRow Spot) → In row rows → In (row_moment net.names f row) (tokens s b)
    row_there row at = ((tokens_are s net f seen b holds class rows are (row_moment net.names f row)).0 (map-In (row_moment net.names f) rows row at)).0

    -- and the other way round
    pub row_of : (k : TokenRow Moment) → In k (tokens s b) → k.class ≡ class → (row : TokenRow Spot) × In row rows × (row_moment net.names f row ≡ k)
    row_of k at own =
        let same : same_name class k.class ≡ true = subst (λ z. same_name class z ≡ true) (sym own) (nat_list_eq_equiv.refl class) in
        In-map (row_moment net.names f) rows k ((tokens_are s net f seen b holds class rows are k).1 (at, same))

-- rows are live to the order of the tree
pub rows_live : {s : Standing} {net : Net} {k : Kept} → IsTreeOf s net k → {class : List ℕ} {rows : List (TokenRow Spot)} → AreTokens (forest k) class rows
    → All (HasLiveSpots (IsKnown net (present k))) rows
rows_live {s} {net} {k} tree {class} {rows} are i d lt =
    let there = spots_there tree.seen are (slice_index_or rows i d) (at_place tree.seen are i d lt) in
    record { begin = ((s, tree.seen), tree.dated, there.begin); «end» = λ e is. ((s, tree.seen), tree.dated, there.«end» e is) }

-- tokens among the occurrences of nodes are spelt
pub tokens_spelt : {s : Standing} {net : Net} {f : Forest} → IsForestOf s net f → {b : List Moment} → HasOccurrences b f → (k : TokenRow Moment) → In k (tokens s b) → IsSpelt k.spot
tokens_spelt {s} seen {b} holds k at =
    let (y, among, is) = In-filter_map (token_of s) b k at in
    let (x, m, here, same) = holds.all y (Contains-from_In b y among) in
    subst IsSpelt (same ∙ sym (spot-token_of s y k is)) (spelt s seen.network.sound.well_formed (moment m) (seen.members x m here).occurs)
