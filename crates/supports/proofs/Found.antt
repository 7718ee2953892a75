-- Entries in their order, a place in them that halving finds, and the first that is of another fact
-- from there.
use Rattle.std.proofs.Common.{◌≡◌, ◌≢◌, ◌∙◌, ℕ, ◌+◌, ◌<◌, ◌≤◌, inl, inr, Bool, true, false, List, length, refl, sym, ap, subst, arith}
use Rattle.std.specs.Prelude.{ℤ, ◌≤ℤ◌, ◌<ℤ◌, int_le, Some, None}
use Rattle.std.proofs.lemmas.Bool.{cases_lt}
use Rattle.std.proofs.lemmas.Int.{ints}
use Rattle.std.proofs.lemmas.List.{get_or_default}
use Rattle.tmm_model.specs.declared.token.TokenRow.{TokenRow}
use Rattle.clipping.specs.ByDate.{IsByDate}
use Rattle.dist_net.specs.Net.{Net}
use Rattle.spots.specs.declared.spot.Spot.{Spot}
use Rattle.spots.specs.declared.spot.Spot.TheVariants.{Node}
use Rattle.spots.specs.Forest.{Forest}
use Rattle.spots.specs.Spots.{AreTokens, node_early, spot_early, spot_cmp}
use Rattle.supports.specs.declared.entries.Entry.{Entry}
use Rattle.supports.specs.Under.{IsUnder}
use Rattle.supports.specs.Entries.{no_row, no_entry, row_at, node_at, fact_at, entry_at, AreEntries, AreSorted}
use Rattle.supports.specs.Firsts.{IsFirstOf, IsCandidate, IsBefore, AreBefore, IsPast}
use Rattle.supports.proofs.BranchesEntering.{spot_is}

not_less : (a b : ℤ) → (a <ℤ b → ⊥) → b ≤ℤ a
not_less a b out = by (int_le b a) refl
  where
    by : (t : Bool) → int_le b a ≡ t → b ≤ℤ a
    by true e = omega (arith, ints, e)
    by false e = absurd (out (omega (arith, ints, e)))

module _ (net : Net) {f : Forest} {class : List ℕ} {rows : List (TokenRow Spot)} (tokens : AreTokens f class rows) (by_date : IsByDate (spot_early net f) (spot_cmp net f) rows) where
  abbrev date : ℕ → ℤ
  date i = node_early net f (node_at rows i)

  -- dates do not fall
  date_up : (i j : ℕ) → i ≤ j → j < length rows → date i ≤ℤ date j
  date_up i j le lt = elim (cases_lt i j) [
    | inl less ↦
        subst (λ p. spot_early net f p ≤ℤ spot_early net f (Node (node_at rows j))) (spot_is f class rows tokens i (omega (arith, less, lt)))
        (subst (λ p. spot_early net f (row_at rows i).spot ≤ℤ spot_early net f p) (spot_is f class rows tokens j lt) (by_date.dates i j no_row less lt))
    | inr more ↦ (let same : j ≡ i = omega (arith, le, more) in subst (λ k. date i ≤ℤ date k) (sym same) (omega (arith, ints)))
  ]

  module _ {entries : List Entry} (are : AreEntries f rows entries) (sorted : AreSorted entries) (z : ℕ) (least : ℤ) where
    abbrev Before : ℕ → Type 0
    Before i = IsBefore net f rows z least (entry_at entries i)

    place_within : (i : ℕ) → i < length entries → (entry_at entries i).place < length rows
    place_within i lt = (are.own i no_entry lt).0

    -- what stands before one that comes before does too
    before_lower : (i j : ℕ) → i < j → j < length entries → Before j → Before i
    before_lower i j less lt before = elim (sorted i j less lt) [
      | inl lower ↦ elim before [
        | inl low ↦ inl (omega (arith, lower, low))
        | inr (is, _) ↦ inl (omega (arith, lower, is))
      ]
      | inr (same, le) ↦ elim before [
        | inl low ↦ inl (omega (arith, same, low))
        | inr (is, early) ↦ (let up = date_up (entry_at entries i).place (entry_at entries j).place le (place_within j lt) in inr (same ∙ is, omega (arith, ints, up, early)))
      ]
    ]

    -- ---- by the entry in the middle

    pub first_more : (i : ℕ) → i < length entries → Before i → (j : ℕ) → j < i + 1 → Before j
    first_more i lt here j less = elim (cases_lt j i) [
      | inl lower ↦ before_lower j i lower lt here
      | inr more ↦ let same : i ≡ j = omega (arith, less, more) in subst Before same here
    ]

    pub rest_more : (i : ℕ) → i < length entries → (Before i → ⊥) → (j : ℕ) → i ≤ j → j < length entries → Before j → ⊥
    rest_more i lt out j le within before = elim (cases_lt i j) [
      | inl less ↦ out (before_lower i j less within before)
      | inr more ↦ let same : j ≡ i = omega (arith, le, more) in out (subst Before same before)
    ]

    -- ---- from the place that was found on

    module _ (fact : List ℕ) (start n : ℕ) (counted : AreBefore net f rows z least entries start) (past : IsPast rows entries start z fact n) where
      -- the entry of a candidate stands from there on
      entry_of : (j : ℕ) → IsCandidate net f rows z least fact j → (k : ℕ) × (k < length entries) × (entry_at entries k ≡ record { node = z; place = j }) × (n ≤ k)
      entry_of j c =
          let (k, lt, at) = are.all z j c.within c.under in
          let is : entry_at entries k ≡ record { node = z; place = j } = get_or_default entries k no_entry (record { node = z; place = j }) lt ∙ at in (
            k,
            lt,
            is,
            (elim (cases_lt k start) [
              | inl less ↦ elim (counted.first k less) [
                | inl low ↦ (let own : (entry_at entries k).node ≡ z = ap (λ e. e.node) is in absurd (omega (arith, low, own)))
                | inr (_, early) ↦
                    let here : date (entry_at entries k).place ≡ date j = ap (λ (e : Entry). date e.place) is in
                    let late = c.date in
                    absurd (omega (arith, ints, early, here, late))
              ]
              | inr from ↦ elim (cases_lt k n) [
                | inl inside ↦ absurd (c.other (ap (λ (e : Entry). fact_at rows e.place) (sym is) ∙ (past.passed k from inside).1))
                | inr more ↦ more
              ]
            ]),
          )

      -- **The entry there is of the first candidate**, where it is of the node.
      pub first_found : n < length entries → (entry_at entries n).node ≡ z → IsFirstOf (IsCandidate net f rows z least fact) (Some (entry_at entries n).place)
      first_found lt own = (
        record {
          within = place_within n lt;
          under = subst (λ x. IsUnder f x (node_at rows (entry_at entries n).place)) own (are.own n no_entry lt).1;
          date = not_less (date (entry_at entries n).place) least (λ early. counted.rest n past.after lt (inr (own, early)));
          other = past.next lt own;
        },
        λ j c.
            (let (k, within, is, le) = entry_of j c in
            let place : (entry_at entries k).place ≡ j = ap (λ e. e.place) is in
            let node : (entry_at entries k).node ≡ z = ap (λ e. e.node) is in
            elim (cases_lt n k) [
              | inl less ↦ elim (sorted n k less within) [
                | inl lower ↦ absurd (omega (arith, lower, node, own))
                | inr (_, up) ↦ subst (λ p. (entry_at entries n).place ≤ p) place up
              ]
              | inr more ↦ (let same : n ≡ k = omega (arith, le, more) in subst (λ p. (entry_at entries n).place ≤ p) (ap (λ q. (entry_at entries q).place) same ∙ place) (omega arith))
            ]),
      )

      -- and there is none, where it is not
      pub none_found : (n < length entries → (entry_at entries n).node ≢ z) → IsFirstOf (IsCandidate net f rows z least fact) None
      none_found apart j c =
          let (k, within, is, le) = entry_of j c in
          let node : (entry_at entries k).node ≡ z = ap (λ e. e.node) is in
          let lt : n < length entries = omega (arith, le, within) in
          elim (cases_lt n k) [
            | inl less ↦ elim (sorted n k less within) [
              | inl lower ↦ counted.rest n past.after lt (inl (omega (arith, lower, node)))
              | inr (same, _) ↦ apart lt (same ∙ node)
            ]
            | inr more ↦ (let at : n ≡ k = omega (arith, le, more) in apart lt (ap (λ q. (entry_at entries q).node) at ∙ node))
          ]

-- ---- behind the entries of a fact
