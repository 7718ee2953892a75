-- Firsts of several searches, and that they are the first clips.
use Rattle.std.proofs.Common.{◌≡◌, ◌≢◌, ◌∙◌, ℕ, ◌<◌, inl, inr, Bool, true, false, not, List, [], ◌∷◌, ◌++◌, length, refl, sym, ap, subst, arith}
use Rattle.std.specs.Prelude.{◌⊎◌, ℤ, pos, negsuc, ◌+ℤ◌, ◌-ℤ◌, ◌≤ℤ◌, int_le, ◌&&◌, min, Option, Some, None}
use Rattle.std.specs.Cmp.Lexicographic.{bytes_decides}
use Rattle.std.proofs.lemmas.Bool.{cases_lt}
use Rattle.std.proofs.lemmas.Int.{ints}
use Rattle.std.proofs.lemmas.List.Elements.{Contains-append_left, Contains-push, Contains-push_cases}
use Rattle.list_theory.proofs.Elements.{both}
use Rattle.tmm_model.specs.declared.bound.Bound.{Bound}
use Rattle.tmm_model.specs.declared.bound.Bound.TheVariants.{Finite, Free}
use Rattle.tmm_model.specs.declared.token.TokenRow.{TokenRow}
use Rattle.tmm_model.specs.Bounds.{bound_at_most}
use Rattle.tmm_model.specs.Points.{same_name}
use Rattle.tmm_model.specs.Tokens.{of_one_class, is_before, clips}
use Rattle.dist_net.specs.Net.{Net}
use Rattle.spots.specs.declared.spot.Spot.{Spot}
use Rattle.spots.specs.declared.spot.Spot.TheVariants.{Node}
use Rattle.spots.specs.Forest.{Forest}
use Rattle.spots.specs.OfLists.{HasList}
use Rattle.spots.specs.Spots.{AreTokens, spot_distance, node_early}
use Rattle.spots.proofs.Nodes.{node_at as member_at}
use Rattle.supports.specs.Under.{IsWay}
use Rattle.supports.specs.Entries.{row_at, node_at, fact_at, HaveRoots}
use Rattle.supports.specs.Firsts.{IsFirstOf, IsCandidate, IsOtherBehind, IsOtherBehindAny, IsClipper, IsSooner}
use Rattle.supports.proofs.BranchesEntering.{spot_is, node_live, class_is}
use Rattle.supports.proofs.Tells.{surely, one_tells}

-- ---- firsts

-- of what holds of the same numbers
pub first_same : (P Q : ℕ → Type 0) → ((i : ℕ) → P i → Q i) → ((i : ℕ) → Q i → P i) → (found : Option ℕ) → IsFirstOf P found → IsFirstOf Q found
first_same P Q to from None h = λ i q. h i (from i q)
first_same P Q to from (Some i) (p, least) = (to i p, λ j q. least j (from j q))

-- of two kinds
pub first_sooner : (P Q : ℕ → Type 0) (a b c : Option ℕ) → IsFirstOf P a → IsFirstOf Q b → IsSooner a b c → IsFirstOf (λ i. P i ⊎ Q i) c
first_sooner P Q None b c none h is = by b c h is
  where
    by : (b c : Option ℕ) → IsFirstOf Q b → c ≡ b → IsFirstOf (λ i. P i ⊎ Q i) c
    by None c h is = subst (IsFirstOf (λ i. P i ⊎ Q i)) (sym is) (λ i t. elim t [ inl p ↦ none i p | inr q ↦ h i q ])
    by (Some y) c (q, least) is = subst (IsFirstOf (λ i. P i ⊎ Q i)) (sym is) (inr q, λ j t. elim t [ inl p ↦ absurd (none j p) | inr r ↦ least j r ])
first_sooner P Q (Some x) None c (p, least) none is =
    subst (IsFirstOf (λ i. P i ⊎ Q i)) (sym is) (inl p, λ j t. elim t [ inl r ↦ least j r | inr q ↦ absurd (none j q) ])
first_sooner P Q (Some x) (Some y) c (p, first) (q, second) is = subst (IsFirstOf (λ i. P i ⊎ Q i)) (sym is) (
  (elim (cases_lt x y) [
    | inl less ↦ let at : x ≡ min x y = omega (arith, less) in subst (λ i. P i ⊎ Q i) at (inl p)
    | inr more ↦ let at : y ≡ min x y = omega (arith, more) in subst (λ i. P i ⊎ Q i) at (inr q)
  ]),
  λ j t. elim t [
    | inl r ↦ (let le = first j r in omega (arith, le))
    | inr r ↦ (let le = second j r in omega (arith, le))
  ],
)

-- ---- behind a token as far as a node tells

module _ (net : Net) (f : Forest) (rows : List (TokenRow Spot)) (z i : ℕ) where
  abbrev far : Bound
  far = spot_distance net f (Node z) (Node (node_at rows i))

  -- no bound tells nothing
  pub none_behind : far ≡ Free → IsFirstOf (IsOtherBehind net f rows z i) None
  none_behind free j is = (let t : false ≡ true = (λ k. bound_at_most (sym free k) ((node_early net f (node_at rows j) -ℤ node_early net f z) -ℤ pos 1)) ∙ is.by.behind in cc)

  module _ (w : ℤ) (finite : far ≡ Finite w) where
    abbrev least : ℤ
    least = (node_early net f z +ℤ w) +ℤ pos 1

    late : (a b : ℤ) → ((a +ℤ w) +ℤ pos 1) ≤ℤ b → int_le w ((b -ℤ a) -ℤ pos 1) ≡ true
    late a b le = let less : w ≤ℤ ((b -ℤ a) -ℤ pos 1) = omega (arith, ints, le) in grind (arith, ints)

    later : (a b : ℤ) → int_le w ((b -ℤ a) -ℤ pos 1) ≡ true → ((a +ℤ w) +ℤ pos 1) ≤ℤ b
    later a b e = omega (arith, ints, e)

    to : (j : ℕ) → IsCandidate net f rows z least (fact_at rows i) j → IsOtherBehind net f rows z i j
    to j c = record {
      within = c.within;
      by = record {
        under = c.under;
        behind = ap (λ b. bound_at_most b ((node_early net f (node_at rows j) -ℤ node_early net f z) -ℤ pos 1)) finite ∙ late (node_early net f z) (node_early net f (node_at rows j)) c.date;
      };
      other = c.other;
    }

    from : (j : ℕ) → IsOtherBehind net f rows z i j → IsCandidate net f rows z least (fact_at rows i) j
    from j is = record {
      within = is.within;
      under = is.by.under;
      date = later (node_early net f z) (node_early net f (node_at rows j)) (ap (λ b. bound_at_most b ((node_early net f (node_at rows j) -ℤ node_early net f z) -ℤ pos 1)) (sym finite) ∙ is.by.behind);
      other = is.other;
    }

    -- by a bound it is what has a date
    pub behind_from : (from_date : ℤ) (fact : List ℕ) → from_date ≡ least → fact ≡ fact_at rows i → (found : Option ℕ) → IsFirstOf (IsCandidate net f rows z from_date fact) found → IsFirstOf (IsOtherBehind net f rows z i) found
    behind_from from_date fact date own found h =
        first_same (IsCandidate net f rows z least (fact_at rows i)) (IsOtherBehind net f rows z i) to from found
        (subst (λ l. IsFirstOf (IsCandidate net f rows z l (fact_at rows i)) found) date (subst (λ k. IsFirstOf (IsCandidate net f rows z from_date k) found) own h))

-- ---- as one of several nodes tells

module _ (net : Net) (f : Forest) (rows : List (TokenRow Spot)) (i : ℕ) where
  -- no node tells anything
  pub none_any : IsFirstOf (IsOtherBehindAny net f rows [] i) None
  none_any j is = let (k, lt, _) = is.among in omega (arith, lt)

  -- one node more
  pub more_any : (nodes : List ℕ) (z : ℕ) (found : Option ℕ) → IsFirstOf (λ j. IsOtherBehindAny net f rows nodes i j ⊎ IsOtherBehind net f rows z i j) found → IsFirstOf (IsOtherBehindAny net f rows (nodes ++ z ∷ []) i) found
  more_any nodes z found h =
      first_same (λ j. IsOtherBehindAny net f rows nodes i j ⊎ IsOtherBehind net f rows z i j) (IsOtherBehindAny net f rows (nodes ++ z ∷ []) i)
      (λ j t. elim t [
        | inl is ↦ record { node = is.node; among = Contains-append_left nodes (z ∷ []) is.node is.among; by = is.by }
        | inr is ↦ record { node = z; among = Contains-push nodes z; by = is }
      ])
      (λ j is. elim (Contains-push_cases nodes z is.node is.among) [
        | inl at ↦ inl (record { node = is.node; among = at; by = is.by })
        | inr same ↦ inr (subst (λ y. IsOtherBehind net f rows y i j) (sym same) is.by)
      ])
      found h

-- ---- clips

module _ (net : Net) (f : Forest) (list : HasList net f) (class : List ℕ) (rows : List (TokenRow Spot)) (are : AreTokens f class rows) (i : ℕ) (lt : i < length rows) where
  abbrev k : TokenRow Spot
  k = row_at rows i

  -- what is surely behind is so at its spots
  before_is : (j : ℕ) → j < length rows → is_before (spot_distance net f) k.spot (row_at rows j).spot ≡ bound_at_most (spot_distance net f (Node (node_at rows j)) (Node (node_at rows i))) (negsuc 0)
  before_is j within = λ t. bound_at_most (spot_distance net f (spot_is f class rows are j within t) (spot_is f class rows are i lt t)) (negsuc 0)

  clips_by : (z j : ℕ) → IsOtherBehind net f rows z i j → IsClipper net f rows i j
  clips_by z j is =
      let class_same : same_name k.class (row_at rows j).class ≡ true = (bytes_decides k.class (row_at rows j).class).1 (class_is f class rows are i lt ∙ sym (class_is f class rows are j is.within)) in
      let fact_other : same_name k.fact (row_at rows j).fact ≡ false = differ (same_name k.fact (row_at rows j).fact) refl in
      let sure = before_is j is.within ∙ surely net f list z (node_at rows i) (node_at rows j) (node_live f class rows are i lt) is.by in
      (is.within, λ t. (class_same t && not (fact_other t)) && sure t)
    where
      differ : (b : Bool) → same_name k.fact (row_at rows j).fact ≡ b → same_name k.fact (row_at rows j).fact ≡ false
      differ false e = e
      differ true e = absurd (is.other (sym ((bytes_decides k.fact (row_at rows j).fact).0 e)))

  module _ (way roots : List ℕ) (is_way : IsWay f (node_at rows i) way) (have : HaveRoots f rows roots) where
    clipper_by : (j : ℕ) → IsClipper net f rows i j → IsOtherBehindAny net f rows way i j ⊎ IsOtherBehindAny net f rows roots i j
    clipper_by j (within, clips) =
        let (of_class, before) = both (of_one_class k (row_at rows j)) (is_before (spot_distance net f) k.spot (row_at rows j).spot) clips in
        let (_, apart) = both (same_name k.class (row_at rows j).class) (not (same_name k.fact (row_at rows j).fact)) of_class in
        let other : fact_at rows j ≢ fact_at rows i = λ same. (let t = (bytes_decides k.fact (row_at rows j).fact).1 (sym same) in let wrong : false ≡ true = ap not (sym t) ∙ apart in cc) in
        let (m, m_at) = member_at f (node_at rows i) (node_live f class rows are i lt) in
        let (n, n_at) = member_at f (node_at rows j) (node_live f class rows are j within) in
        let (r, among, root) = have.all j within in
        elim (one_tells net f list (node_at rows i) (node_at rows j) m n m_at n_at (sym (before_is j within) ∙ before) way is_way r root) [
          | inl (z, on, by) ↦ inl (record { node = z; among = on; by = record { within = within; by = by; other = other } })
          | inr by ↦ inr (record { node = r; among = among; by = record { within = within; by = by; other = other } })
        ]

    -- **The sooner of what the nodes on the way and the roots tell is the first clip.**
    pub first_clip : (found : Option ℕ) → IsFirstOf (λ j. IsOtherBehindAny net f rows way i j ⊎ IsOtherBehindAny net f rows roots i j) found → IsFirstOf (IsClipper net f rows i) found
    first_clip found h =
        first_same (λ j. IsOtherBehindAny net f rows way i j ⊎ IsOtherBehindAny net f rows roots i j) (IsClipper net f rows i)
        (λ j t. elim t [ inl is ↦ clips_by is.node j is.by | inr is ↦ clips_by is.node j is.by ])
        clipper_by found h
