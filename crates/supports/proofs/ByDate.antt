-- The tokens of a class stand in the order of their dates.
use Rattle.std.proofs.Common.{◌≡◌, ◌∙◌, ℕ, ◌+◌, ◌-◌, ◌<◌, ◌<ℤ◌, ◌≤ℤ◌, List, length, drop, refl, sym, ap, arith}
use Rattle.std.proofs.lemmas.Int.{ints}
use Rattle.std.specs.Prelude.{slice_index_or}
use Rattle.std.specs.Cmp.Lexicographic.{slice_cmp}
use Rattle.std.specs.declared.cmp.Ordering.{Ordering}
use Rattle.std.specs.declared.cmp.Ordering.TheVariants.{Less, Equal, Greater}
use Rattle.std.specs.Ordering.{int_cmp, nat_cmp, ordering_then, MatchOrdering}
use Rattle.std.proofs.lemmas.Cmp.{int_ranked}
use Rattle.std.proofs.lemmas.List.{get_or-map, get_or-drop, length-drop}
use Rattle.std.proofs.lemmas.List.Elements.{Contains-get_or}
use Rattle.tmm_model.specs.declared.token.TokenRow.{TokenRow}
use Rattle.tmm_model.specs.Moments.{printed}
use Rattle.tmm_model.specs.Standing.{Standing}
use Rattle.clipping.specs.ByDate.{IsByDate}
use Rattle.dist_net.specs.Net.{Net}
use Rattle.spots.specs.declared.spot.Spot.{Spot}
use Rattle.spots.specs.declared.spot.Spot.TheVariants.{Node}
use Rattle.spots.specs.Forest.{IsLive, moment_at}
use Rattle.spots.specs.Spots.{AreTokens, node_early, node_cmp, spot_early, spot_cmp}
use Rattle.spots.proofs.Nodes.{live_at}
use Rattle.occ_tree.specs.Known.{dated_cmp}
use Rattle.occ_tree.specs.OfLists.{IsTreeIn, IsTreeOf}
use Rattle.occ_tree.specs.Places.{forest}
use Rattle.occ_tree.specs.Standing.{Kept, nodes_in, present, order}
use Rattle.occ_tree.specs.Tokens.{number_of, numbers_in, IsInOrder}
use Rattle.occ_tree.proofs.InOrder.{back_more}
use Rattle.occ_tree.proofs.Ranking.{nodes_total}
use Rattle.occ_tree.proofs.TokenLists.{on_at, length-numbers}
use Rattle.spots.proofs.TokenSpots.{token_row_spots}

-- where the tree is of a list, it is of some list
pub tree_in : {s : Standing} {net : Net} {k : Kept} → IsTreeOf s net k → IsTreeIn net k
tree_in {s} tree = record { list = (s, tree.seen); dated = tree.dated }

module _ {net : Net} {k : Kept} (tree : IsTreeIn net k) {class : List ℕ} {rows : List (TokenRow Spot)} (are : AreTokens (forest k) class rows) (up : IsInOrder (order (present k)) (numbers_in rows)) where
  -- the node of the row at a place
  node_at : (i : ℕ) (d : TokenRow Spot) → i < length rows → (x : ℕ) × ((slice_index_or rows i d).spot ≡ Node x) × IsLive (forest k) x
  node_at i d within =
      let (x, m, here, made, _) = are.own (slice_index_or rows i d) (Contains-get_or rows i d within) in
      (x, (token_row_spots x m (slice_index_or rows i d) made).0, live_at (forest k) x m here)

  number_at : (i : ℕ) (d : TokenRow Spot) → i < length rows → slice_index_or (numbers_in rows) i 0 ≡ number_of (slice_index_or rows i d).spot
  number_at i d within = get_or-map (λ (row : TokenRow Spot). number_of row.spot) rows i d 0 within

  -- the number at a later place is one of those behind
  later : (i j : ℕ) → i < j → j < length (numbers_in rows) → slice_index_or (drop (i + 1) (numbers_in rows)) (j - (i + 1)) 0 ≡ slice_index_or (numbers_in rows) j 0
  later i j lt within = get_or-drop (i + 1) (numbers_in rows) (j - (i + 1)) 0 ∙ ap (λ n. slice_index_or (numbers_in rows) n 0) (let sum : i + 1 + (j - (i + 1)) ≡ j = omega arith in sum)

  -- each node is before those behind it
  less : (i j : ℕ) (d : TokenRow Spot) → i < j → j < length rows → (x y : ℕ) → (slice_index_or rows i d).spot ≡ Node x → (slice_index_or rows j d).spot ≡ Node y
      → IsLive (forest k) x → IsLive (forest k) y → node_cmp net (forest k) x y ≡ Less
  less i j d lt within x y is_x is_y live_x live_y =
      let count = length-numbers rows in
      let first : slice_index_or (numbers_in rows) i 0 ≡ x = number_at i d (omega (arith, lt, within)) ∙ ap number_of is_x in
      let second : slice_index_or (numbers_in rows) j 0 ≡ y = number_at j d within ∙ ap number_of is_y in
      let on = on_at (drop (i + 1) (numbers_in rows)) (j - (i + 1)) (omega (arith, lt, within, count, length-drop (i + 1) (numbers_in rows))) in
      let before = back_more (order (present k)) (nodes_total (nodes_in (present k).rows)) (numbers_in rows) i (slice_index_or (drop (i + 1) (numbers_in rows)) (j - (i + 1)) 0) up (omega (arith, lt, within, count)) on in
      sym (dated_cmp net (present k) tree.dated x y live_x live_y)
      ∙ sym (λ t. order (present k) (first t) ((later i j lt (omega (arith, within, count)) ∙ second) t))
      ∙ before

  -- what is before another begins no later
  no_later : (x y : ℕ) → node_cmp net (forest k) x y ≡ Less → node_early net (forest k) x ≤ℤ node_early net (forest k) y
  no_later x y e =
      let a = node_early net (forest k) x in
      let b = node_early net (forest k) y in
      by (int_cmp a b) (int_ranked a b (int_cmp a b) refl) e
    where
      by : (r : Ordering) → MatchOrdering r (node_early net (forest k) x <ℤ node_early net (forest k) y) (node_early net (forest k) x ≡ node_early net (forest k) y) (node_early net (forest k) y <ℤ node_early net (forest k) x)
          → ordering_then r (slice_cmp nat_cmp (printed (moment_at (forest k) x)) (printed (moment_at (forest k) y))) ≡ Less → node_early net (forest k) x ≤ℤ node_early net (forest k) y
      by Less h e = omega (arith, ints)
      by Equal h e = omega (arith, ints)
      by Greater h e = cc

  -- **Tokens in the order of nodes are in the order of their dates.**
  pub by_date : IsByDate (spot_early net (forest k)) (spot_cmp net (forest k)) rows
  by_date = record {
    dates = λ i j d lt within.
        (let (x, is_x, live_x) = node_at i d (omega (arith, lt, within)) in
        let (y, is_y, live_y) = node_at j d within in
        let later = no_later x y (less i j d lt within x y is_x is_y live_x live_y) in
        rw (is_x, is_y) later);
    before = λ i j d lt within.
        (let (x, is_x, live_x) = node_at i d (omega (arith, lt, within)) in
        let (y, is_y, live_y) = node_at j d within in
        (λ t. spot_cmp net (forest k) (is_x t) (is_y t)) ∙ less i j d lt within x y is_x is_y live_x live_y);
  }
