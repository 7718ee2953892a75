-- The tokens of a class, one by one from the last on, and what clips each.
use Rattle.std.proofs.Common.{◌≡◌, ℕ, ◌+◌, ◌<◌, true, false, List, [], ◌∷◌, ◌++◌, sym, ◌∙◌, ap, subst, arith}
use Rattle.std.specs.Prelude.{Option, Some, IsNone, MatchOption, length, drop, slice_index_or}
use Rattle.std.specs.List.{Contains}
use Rattle.std.specs.List.Sorted.{IsStrictlySortedBy}
use Rattle.std.specs.Option.{option_and_then}
use Rattle.std.specs.Cmp.Lexicographic.{nat_list_eq_equiv}
use Rattle.std.proofs.lemmas.List.{length-map, get_or-map, drop_more}
use Rattle.std.proofs.lemmas.List.Elements.{Contains-get_or}
use Rattle.tmm_model.specs.declared.token.TokenRow.{TokenRow}
use Rattle.tmm_model.specs.Points.{same_name}
use Rattle.tmm_model.specs.Tokens.{of_one_class, clips}
use Rattle.list_theory.proofs.Elements.{In, In-from_Contains, Contains-from_In, map-In}
use Rattle.tmm_model.specs.Standing.{Standing}
use Rattle.dist_net.specs.Net.{Net}
use Rattle.spots.specs.declared.spot.Spot.{Spot}
use Rattle.spots.specs.declared.spot.Spot.TheVariants.{Node}
use Rattle.spots.specs.Forest.{Forest}
use Rattle.spots.specs.Spots.{AreTokens, token_row, spot_distance, spot_cmp, node_cmp}
use Rattle.occ_tree.specs.OfLists.{IsTreeIn}
use Rattle.occ_tree.specs.Places.{forest}
use Rattle.occ_tree.specs.Standing.{Kept, present, order}
use Rattle.occ_tree.specs.Tokens.{number_of, numbers_in, IsInOrder}
use Rattle.supports.specs.Behind.{token_at, of_class, rows_behind, IsLastNode}
use Rattle.supports.specs.Clips.{IsClipBy}
use Rattle.supports.proofs.Behind.{node_of_token, spot_of}
use Rattle.supports.proofs.ByDate.{by_date}
use Rattle.supports.proofs.Falling.{rising}
use Rattle.supports.proofs.Nearest.{nearest_is}
use Rattle.supports.proofs.TokenRows.{no_row}
use Rattle.spots.proofs.TokenSpots.{token_row_spots}

-- the number of the node of the token at a place
pub number_here : (rows : List (TokenRow Spot)) (i : ℕ) (row : TokenRow Spot) → i < length rows → row ≡ slice_index_or rows i row → slice_index_or (numbers_in rows) i 0 ≡ number_of row.spot
number_here rows i row lt is = get_or-map (λ (r : TokenRow Spot). number_of r.spot) rows i row 0 lt ∙ ap (λ r. number_of r.spot) (sym is)

module _ (f : Forest) (class : List ℕ) (rows : List (TokenRow Spot)) (are : AreTokens f class rows) where
  abbrev nodes : List ℕ
  nodes = numbers_in rows

  pub within_numbers : (i : ℕ) → i < length rows → i < length nodes
  within_numbers i lt = subst (λ n. i < n) (sym (length-map rows (λ row. number_of row.spot))) lt

  -- the token at a place begins at the node there
  pub spot_here : (i : ℕ) (d : TokenRow Spot) (e : ℕ) → i < length rows → (slice_index_or rows i d).spot ≡ Node (slice_index_or nodes i e)
  spot_here i d e lt =
      let (x, m, here, made, _) = are.own (slice_index_or rows i d) (Contains-get_or rows i d lt) in
      let begins : (slice_index_or rows i d).spot ≡ Node x = (token_row_spots x m (slice_index_or rows i d) made).0 in
      begins ∙ ap Node (sym (get_or-map (λ (row : TokenRow Spot). number_of row.spot) rows i d e lt ∙ ap number_of begins))

  -- is its token
  pub token_here : (i : ℕ) (d : TokenRow Spot) → i < length rows → token_at f (slice_index_or nodes i 0) ≡ Some (slice_index_or rows i d)
  token_here i d lt =
      let (x, m, here, made, _) = are.own (slice_index_or rows i d) (Contains-get_or rows i d lt) in
      let begins : (slice_index_or rows i d).spot ≡ Node x = (token_row_spots x m (slice_index_or rows i d) made).0 in
      ap (token_at f) (get_or-map (λ (row : TokenRow Spot). number_of row.spot) rows i d 0 lt ∙ ap number_of begins)
      ∙ ap (option_and_then (token_row x)) here ∙ made

  -- and is of the class
  pub class_here : (i : ℕ) (d : TokenRow Spot) → i < length rows → (slice_index_or rows i d).class ≡ class
  class_here i d lt = let (_, _, _, _, own) = are.own (slice_index_or rows i d) (Contains-get_or rows i d lt) in own

  -- the nodes are those of all tokens of the class
  pub all_there : (y : ℕ) (c : TokenRow Spot) → token_at f y ≡ Some c → c.class ≡ class → Contains nodes y
  all_there y c is own =
      let (m, here, made) = node_of_token f y c is in
      let there = map-In (λ (row : TokenRow Spot). number_of row.spot) rows c (In-from_Contains rows c (are.all y m c here made own)) in
      Contains-from_In nodes y (subst (λ z. In z nodes) (ap number_of (spot_of f y c is)) there)

  -- the token at a place comes behind those that stand after it in the class
  pub one_behind : (i : ℕ) (d : TokenRow Spot) → i < length rows → rows_behind f class (drop i nodes) ≡ rows_behind f class (drop (i + 1) nodes) ++ slice_index_or rows i d ∷ []
  one_behind i d lt =
      ap (rows_behind f class) (drop_more nodes i 0 (within_numbers i lt))
      ∙ ap (λ o. rows_behind f class (drop (i + 1) nodes) ++ of_class class o) (token_here i d lt)
      ∙ ap (λ v. rows_behind f class (drop (i + 1) nodes) ++ elim v [ true ↦ slice_index_or rows i d ∷ [] | false ↦ [] ]) same
    where
      same : same_name class (slice_index_or rows i d).class ≡ true
      same = subst (λ z. same_name class z ≡ true) (sym (class_here i d lt)) (nat_list_eq_equiv.refl class)

module _ {net : Net} {k : Kept} (tree : IsTreeIn net k) {class : List ℕ} {rows : List (TokenRow Spot)} (are : AreTokens (forest k) class rows) (up : IsInOrder (order (present k)) (numbers_in rows)) where
  -- the nodes rise
  nodes_rise : IsStrictlySortedBy (node_cmp net (forest k)) (numbers_in rows)
  nodes_rise = rising (node_cmp net (forest k)) (numbers_in rows) (λ i j d lt within.
      let less : j < length rows = subst (λ n. j < n) (length-map rows (λ row. number_of row.spot)) within in
      sym (λ t. spot_cmp net (forest k) (spot_here (forest k) class rows are i no_row d (omega arith) t) (spot_here (forest k) class rows are j no_row d less t))
      ∙ (by_date tree are up).before i j no_row lt less)

  -- **The last token of those behind that clips it** is its clip by its class.
  pub clip_here : (i : ℕ) (d row : TokenRow Spot) → i < length rows → row ≡ slice_index_or rows i d → (others : List (TokenRow Spot)) → others ≡ rows_behind (forest k) class (drop (i + 1) (numbers_in rows))
      → (found : Option ℕ) → MatchOption row.end (IsLastNode (clips of_one_class (spot_distance net (forest k)) row) others found) (λ _. IsNone found)
      → (s : Standing) → IsClipBy of_one_class s net (forest k) (slice_index_or (numbers_in rows) i 0) found
  clip_here i d row lt is others behind found h s b seen holds =
      nearest_is seen holds (numbers_in rows) i (within_numbers (forest k) class rows are i lt) nodes_rise row (token_here (forest k) class rows are i d lt ∙ ap Some (sym is))
      (λ y c is_c own. all_there (forest k) class rows are y c is_c (own ∙ own_class)) found
      (subst (λ l. MatchOption row.end (IsLastNode (clips of_one_class (spot_distance net (forest k)) row) l found) (λ _. IsNone found))
      (behind ∙ ap (λ z. rows_behind (forest k) z (drop (i + 1) (numbers_in rows))) (sym own_class)) h)
    where
      own_class : row.class ≡ class
      own_class = ap (λ r. r.class) is ∙ class_here (forest k) class rows are i d lt
