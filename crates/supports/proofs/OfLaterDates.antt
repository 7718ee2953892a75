-- What clips a token has a later date, and so comes behind it in the class.
use Rattle.std.proofs.Common.{◌≡◌, ℕ, ◌<◌, ◌≤◌, inl, inr, List, length, subst, sym, arith}
use Rattle.std.proofs.lemmas.Bool.{cases_lt, both_ways}
use Rattle.std.proofs.lemmas.Int.{ints}
use Rattle.std.proofs.lemmas.List.{get_or_read, get_or_default}
use Rattle.std.specs.Prelude.{◌≤ℤ◌, slice_index_or}
use Rattle.tmm_model.specs.declared.token.TokenRow.{TokenRow}
use Rattle.tmm_model.specs.Tokens.{of_one_class, clips}
use Rattle.supports.specs.Entries.{no_row, row_at}
use Rattle.supports.specs.Firsts.{IsClipper}
use Rattle.supports.proofs.BranchesEntering.{spot_is, node_live}
use Rattle.clipping.specs.ByDate.{IsByDate, AreUntil}
use Rattle.clipping.proofs.RuledOut.{no_clip}
use Rattle.dist_net.specs.Net.{Net}
use Rattle.spots.specs.declared.spot.Spot.{Spot}
use Rattle.spots.specs.Spots.{AreTokens, IsSpot, spot_distance, spot_early, spot_cmp}
use Rattle.occ_tree.specs.Dated.{IsKnown}
use Rattle.occ_tree.specs.Known.{dates_met}
use Rattle.occ_tree.specs.OfLists.{IsTreeIn}
use Rattle.occ_tree.specs.Places.{forest}
use Rattle.occ_tree.specs.Standing.{Kept, present}

module _ {net : Net} {k : Kept} (tree : IsTreeIn net k) {class : List ℕ} {rows : List (TokenRow Spot)} (are : AreTokens (forest k) class rows) where
  -- the token at a place begins at a spot that is there
  here : (i : ℕ) → i < length rows → IsSpot net.names (forest k) (row_at rows i).spot
  here i lt = subst (IsSpot net.names (forest k)) (sym (spot_is (forest k) class rows are i lt)) (node_live (forest k) class rows are i lt)

  pub spot_there : (i : ℕ) → i < length rows → (row : TokenRow Spot) → row ≡ slice_index_or rows i row → IsSpot net.names (forest k) row.spot
  spot_there i lt row read = subst (λ r. IsSpot net.names (forest k) r.spot) (sym (get_or_read rows i row lt read no_row)) (here i lt)

  pub known_there : (i : ℕ) (d : TokenRow Spot) → i < length rows → IsKnown net (present k) (slice_index_or rows i d).spot
  known_there i d lt = (tree.list, tree.dated, subst (λ r. IsSpot net.names (forest k) r.spot) (get_or_default rows i no_row d lt) (here i lt))

  -- a token with a date up to that of another doesn't clip it
  no_later : (i j : ℕ) → i < length rows → spot_early net (forest k) (row_at rows j).spot ≤ℤ spot_early net (forest k) (row_at rows i).spot → IsClipper net (forest k) rows i j → ⊥
  no_later i j lt early (within, passes) =
      both_ways (clips of_one_class (spot_distance net (forest k)) (row_at rows i) (row_at rows j))
      (no_clip (record { met = dates_met net (present k) }) of_one_class (row_at rows i) (known_there i no_row lt) (row_at rows j) (known_there j no_row within) early) passes

  module _ (sorted : IsByDate (spot_early net (forest k)) (spot_cmp net (forest k)) rows) where
    -- what clips a token comes behind it
    pub clipper_behind : (i j : ℕ) → i < length rows → IsClipper net (forest k) rows i j → i < j
    clipper_behind i j lt is = elim (cases_lt i j) [
      | inl less ↦ less
      | inr more ↦ absurd (no_later i j lt (early more) is)
    ]
      where
        early : j ≤ i → spot_early net (forest k) (row_at rows j).spot ≤ℤ spot_early net (forest k) (row_at rows i).spot
        early le = elim (cases_lt j i) [
          | inl less ↦ sorted.dates j i no_row less lt
          | inr more ↦ (let same : i ≡ j = omega (arith, le, more) in subst (λ q. spot_early net (forest k) (row_at rows q).spot ≤ℤ spot_early net (forest k) (row_at rows i).spot) same (omega (arith, ints)))
        ]

  -- it is none of those that begin at its date or before it
  pub none_until : (i n : ℕ) (d : TokenRow Spot) → i < length rows → AreUntil (spot_early net (forest k)) rows (spot_early net (forest k) (slice_index_or rows i d).spot) n → (j : ℕ) → j < n → IsClipper net (forest k) rows i j → ⊥
  none_until i n d lt until j before =
      no_later i j lt (subst (λ r. spot_early net (forest k) (row_at rows j).spot ≤ℤ spot_early net (forest k) r.spot) (get_or_default rows i d no_row lt) (until.first j no_row before))
