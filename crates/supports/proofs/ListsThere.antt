-- The lists of a fact, as `clipping` asks for them: live, by date, and of one class in the first.
use Rattle.std.proofs.Common.{◌≡◌, ℕ, zero, suc, ◌<◌, ◌≤◌, List, [], ◌∷◌, length, inl, inr, refl, sym, subst, arith}
use Rattle.std.specs.Prelude.{Option, Some, None, slice_index_or}
use Rattle.std.specs.List.{All, filter_map}
use Rattle.std.proofs.lemmas.List.{get_or_default}
use Rattle.tmm_model.specs.declared.premise.Premise.{Premise}
use Rattle.tmm_model.specs.declared.token.TokenRow.{TokenRow}
use Rattle.tmm_model.specs.Standing.{Standing}
use Rattle.premise_list.specs.Rivalries.{rivalry_of, rivalries}
use Rattle.clipping.specs.Across.{list_at}
use Rattle.clipping.specs.ByDate.{IsByDate}
use Rattle.clipping.specs.Live.{IsLive as HasLiveSpots}
use Rattle.dist_net.specs.Net.{Net}
use Rattle.spots.specs.declared.spot.Spot.{Spot}
use Rattle.spots.specs.declared.spot.Spot.TheVariants.{Node}
use Rattle.spots.specs.Forest.{IsLive}
use Rattle.spots.specs.Spots.{IsSpot, AreTokens, spot_early, spot_cmp}
use Rattle.occ_tree.specs.Dated.{IsKnown}
use Rattle.occ_tree.specs.OfLists.{IsTreeIn, IsTreeOf}
use Rattle.occ_tree.specs.Places.{forest}
use Rattle.occ_tree.specs.Standing.{Kept, present, order}
use Rattle.occ_tree.specs.Tokens.{IsInOrder, numbers_in}
use Rattle.supports.specs.ClassTokens.{class_lists}
use Rattle.supports.specs.Nodes.{IsOfNode}
use Rattle.supports.proofs.AmongLists.{of_each}
use Rattle.supports.proofs.ByDate.{by_date}
use Rattle.supports.proofs.TokenRows.{no_row, rows_live, rows_of_nodes}

-- there are no more pairs than premises
pub few_pairs : (ps : List Premise) → length (rivalries ps) ≤ length ps
few_pairs [] = omega arith
few_pairs (p ∷ ps) = by (rivalry_of p) refl (few_pairs ps)
  where
    by : (o : Option (List ℕ × List ℕ)) → rivalry_of p ≡ o → length (rivalries ps) ≤ length ps → length (rivalries (p ∷ ps)) ≤ length (p ∷ ps)
    by None e le = rw (e, rivalries, filter_map) (omega (arith, le))
    by (Some pair) e le = rw (e, rivalries, filter_map) (omega (arith, le))

module _ {net : Net} {k : Kept} (tree : IsTreeIn net k) (s : Standing) (fact class : List ℕ) (have : (class : List ℕ) → AreTokens (forest k) class ((present k).tokens class)) where
  abbrev lists : List (List (TokenRow Spot))
  lists = class_lists s (present k).tokens fact class

  as_tree : IsTreeOf tree.list.0 net k
  as_tree = record { seen = tree.list.1; dated = tree.dated }

  nothing : {A : Type 0} (P : A → Type 0) → All P []
  nothing P i d lt = absurd (omega (arith, lt))

  -- what is said of each list
  each_list : (P : List (TokenRow Spot) → Type 0) → ((i : ℕ) → i < length lists → P (list_at lists i)) → All P lists
  each_list P h i d lt = subst P (get_or_default lists i [] d lt) (h i lt)

  pub live_at : (i : ℕ) → i < length lists → All (HasLiveSpots (IsKnown net (present k))) (list_at lists i)
  live_at = of_each s (present k).tokens fact class (All (HasLiveSpots (IsKnown net (present k)))) (nothing (HasLiveSpots (IsKnown net (present k)))) (λ c. rows_live as_tree (have c))

  pub all_live : All (All (HasLiveSpots (IsKnown net (present k)))) lists
  all_live = each_list (All (HasLiveSpots (IsKnown net (present k)))) live_at

  pub nodes_at : (i : ℕ) → i < length lists → All IsOfNode (list_at lists i)
  nodes_at = of_each s (present k).tokens fact class (All IsOfNode) (nothing IsOfNode) (λ c. rows_of_nodes tree.list.1 (have c))

  pub all_by_date : ((c : List ℕ) → IsInOrder (order (present k)) (numbers_in ((present k).tokens c))) → All (IsByDate (spot_early net (forest k)) (spot_cmp net (forest k))) lists
  all_by_date up = each_list (IsByDate (spot_early net (forest k)) (spot_cmp net (forest k)))
      (of_each s (present k).tokens fact class (IsByDate (spot_early net (forest k)) (spot_cmp net (forest k)))
      (record { dates = λ i j d lt within. absurd (omega (arith, within)); before = λ i j d lt within. absurd (omega (arith, within)) })
      (λ c. by_date tree (have c) (up c)))

  -- a token at a place is that of a node that is there
  pub node_live : (i j x : ℕ) → i < length lists → j < length (list_at lists i) → ((d : TokenRow Spot) → (slice_index_or (list_at lists i) j d).spot ≡ Node x) → IsLive (forest k) x
  node_live i j x lt within spot = subst (IsSpot net.names (forest k)) (spot no_row) ((live_at i lt j no_row within).begin).2
