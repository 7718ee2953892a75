-- The first token of a class that clips one is the last of those behind it that does.
use Rattle.std.proofs.Common.{◌≡◌, ◌∙◌, ℕ, zero, suc, ◌+◌, ◌-◌, ◌<◌, ◌≤◌, inl, inr, Bool, true, false, List, [], ◌∷◌, length, refl, sym, ap, subst, arith}
use Rattle.std.specs.Prelude.{Option, Some, None, IsNone, MatchOption, drop, slice_index_or}
use Rattle.std.specs.Option.{option_map, is_some}
use Rattle.std.proofs.lemmas.Bool.{cases_lt}
use Rattle.std.proofs.lemmas.List.{get_or_append_left, get_or_push, length-append, drop_all, length-map}
use Rattle.tmm_model.specs.declared.token.TokenRow.{TokenRow}
use Rattle.tmm_model.specs.Tokens.{of_one_class, clips}
use Rattle.supports.specs.Entries.{no_row, row_at, node_at}
use Rattle.supports.specs.Firsts.{IsFirstOf, IsClipper}
use Rattle.supports.proofs.BranchesEntering.{spot_is}
use Rattle.tmm_model.specs.Standing.{Standing}
use Rattle.dist_net.specs.Net.{Net}
use Rattle.occ_tree.specs.OfLists.{IsTreeIn}
use Rattle.occ_tree.specs.Places.{forest}
use Rattle.occ_tree.specs.Standing.{Kept, present, order}
use Rattle.occ_tree.specs.Tokens.{number_of, numbers_in, IsInOrder}
use Rattle.spots.specs.declared.spot.Spot.{Spot}
use Rattle.spots.specs.Forest.{Forest}
use Rattle.spots.specs.Spots.{AreTokens, spot_distance}
use Rattle.supports.specs.Behind.{rows_behind, IsLastNode}
use Rattle.supports.specs.Clips.{IsClipBy}
use Rattle.supports.proofs.ByDate.{by_date}
use Rattle.supports.proofs.ClassClips.{one_behind, clip_here}
use Rattle.supports.proofs.OfLaterDates.{clipper_behind}

-- what is no span has no end
pub no_end : (o : Option Spot) → is_some o ≡ false → o ≡ None
no_end None e = refl
no_end (Some p) e = cc

-- ---- the tokens behind stand the other way round

module _ (f : Forest) (class : List ℕ) (rows : List (TokenRow Spot)) (are : AreTokens f class rows) where
  abbrev behind : ℕ → List (TokenRow Spot)
  behind i = rows_behind f class (drop i (numbers_in rows))

  none_behind : (i : ℕ) → i ≡ length rows → behind i ≡ []
  none_behind i all = ap (rows_behind f class) (drop_all i (numbers_in rows) (let many = length-map rows (λ (row : TokenRow Spot). number_of row.spot) in omega (arith, many, all)))

  pub many_behind : (m i : ℕ) → i + m ≡ length rows → length (behind i) ≡ m
  many_behind zero i all = ap length (none_behind i (omega (arith, all)))
  many_behind (suc m) i all =
      let lt : i < length rows = omega (arith, all) in
      let one = ap length (one_behind f class rows are i no_row lt) in
      let more = many_behind m (i + 1) (omega (arith, all)) in
      omega (arith, one, more, length-append (behind (i + 1)) (row_at rows i ∷ []))

  pub row_behind : (m i : ℕ) → i + m ≡ length rows → (p j : ℕ) (d : TokenRow Spot) → p + j + 1 ≡ length rows → i ≤ j → slice_index_or (behind i) p d ≡ row_at rows j
  row_behind zero i all p j d sum le = absurd (omega (arith, all, sum, le))
  row_behind (suc m) i all p j d sum le =
      let lt : i < length rows = omega (arith, all) in
      let many = many_behind m (i + 1) (omega (arith, all)) in
      ap (λ l. slice_index_or l p d) (one_behind f class rows are i no_row lt)
      ∙ elim (cases_lt i j) [
        | inl less ↦ get_or_append_left (behind (i + 1)) (row_at rows i ∷ []) d p (omega (arith, many, less, sum, all)) ∙ row_behind m (i + 1) (omega (arith, all)) p j d sum (omega (arith, less))
        | inr more ↦
            let at : i ≡ j = omega (arith, le, more) in
            get_or_push (behind (i + 1)) (row_at rows i) d p (omega (arith, many, at, sum, all)) ∙ ap (row_at rows) at
      ]

module _ {net : Net} {k : Kept} (tree : IsTreeIn net k) {class : List ℕ} {rows : List (TokenRow Spot)} (are : AreTokens (forest k) class rows) (up : IsInOrder (order (present k)) (numbers_in rows)) where
  module _ (i : ℕ) (lt : i < length rows) where
    abbrev others : List (TokenRow Spot)
    others = rows_behind (forest k) class (drop (i + 1) (numbers_in rows))

    abbrev test : TokenRow Spot → Bool
    test = clips of_one_class (spot_distance net (forest k)) (row_at rows i)

    long : length others + i + 1 ≡ length rows
    long = let many = many_behind (forest k) class rows are (length rows - (i + 1)) (i + 1) (omega (arith, lt)) in omega (arith, many, lt)

    read : (p j : ℕ) (d : TokenRow Spot) → p + j + 1 ≡ length rows → i < j → slice_index_or others p d ≡ row_at rows j
    read p j d sum less = row_behind (forest k) class rows are (length rows - (i + 1)) (i + 1) (omega (arith, lt)) p j d sum (omega (arith, less))

    -- one of them passes only where the token at its place clips
    fails : (p j : ℕ) (d : TokenRow Spot) → p + j + 1 ≡ length rows → i < j → (IsClipper net (forest k) rows i j → ⊥) → test (slice_index_or others p d) ≡ false
    fails p j d sum less out = by (test (slice_index_or others p d)) refl
      where
        by : (t : Bool) → test (slice_index_or others p d) ≡ t → test (slice_index_or others p d) ≡ false
        by false e = e
        by true e = absurd (out (omega (arith, sum), subst (λ r. test r ≡ true) (read p j d sum less) e))

    last_node : (found : Option ℕ) → IsFirstOf (IsClipper net (forest k) rows i) found → IsLastNode test others (option_map (node_at rows) found)
    last_node None none = λ p d within. fails p (length rows - (p + 1)) d (omega (arith, within, long)) (omega (arith, within, long)) (none (length rows - (p + 1)))
    last_node (Some j) (is, least) =
        let less = clipper_behind tree are (by_date tree are up) i j lt is in
        let within : j < length rows = is.0 in
        let p : ℕ = length rows - (j + 1) in
        let sum : p + j + 1 ≡ length rows = omega (arith, within) in (
          p,
          record {
            within = omega (arith, sum, less, long);
            passes = λ d. subst (λ r. test r ≡ true) (sym (read p j d sum less)) is.1;
            fail = λ q d more end. fails q (length rows - (q + 1)) d (omega (arith, end, long)) (omega (arith, end, long))
                (λ clips. (let le = least (length rows - (q + 1)) clips in omega (arith, le, more, end, long, sum)));
          },
          λ d. ap (λ (r : TokenRow Spot). r.spot) (read p j d sum less) ∙ spot_is (forest k) class rows are j within,
        )

    -- a span has no clip
    pub span_has_none : is_some (row_at rows i).end ≡ true → (s : Standing) → IsClipBy of_one_class s net (forest k) (slice_index_or (numbers_in rows) i 0) None
    span_has_none span = clip_here tree are up i no_row (row_at rows i) lt refl others refl None (by (row_at rows i).end span)
      where
        nothing : Option ℕ
        nothing = None

        by : (o : Option Spot) → is_some o ≡ true → MatchOption o (IsLastNode test others nothing) (λ _. IsNone nothing)
        by None e = cc
        by (Some p) e = refl

    -- **The first that clips it is its clip** by its class, where it is no span.
    pub first_is_clip : (row_at rows i).end ≡ None → (found : Option ℕ) → IsFirstOf (IsClipper net (forest k) rows i) found
        → (s : Standing) → IsClipBy of_one_class s net (forest k) (slice_index_or (numbers_in rows) i 0) (option_map (node_at rows) found)
    first_is_clip no_span found first =
        clip_here tree are up i no_row (row_at rows i) lt refl others refl (option_map (node_at rows) found)
        (subst (λ o. MatchOption o (IsLastNode test others (option_map (node_at rows) found)) (λ _. IsNone (option_map (node_at rows) found))) (sym no_span) (last_node found first))
