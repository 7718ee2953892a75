-- Which places hold rows.
use Rattle.std.proofs.Common.{◌≡◌, ◌≢◌, ℕ, zero, suc, ◌<◌, ◌≤◌, List, [], ◌∷◌, Option, Some, None, is_some, IsSome, count_by, cond, ◌+◌, refl, sym, ap, ◌∙◌, arith, slice_index_or, slice_set, inl, inr}
use Rattle.std.proofs.lemmas.Bool.{cases_eq}
use Rattle.std.proofs.lemmas.List.{get_or-set_other}
use Rattle.std.proofs.lemmas.List.Recursion.{is_count_by}

module _ {A : Type 0} where
  -- no place from n on holds any
  abbrev pub HoldsBelow : List (Option A) → ℕ → Type 0
  HoldsBelow rows n = (x : ℕ) → n ≤ x → slice_index_or rows x None ≡ None

  -- how many places hold rows
  abbrev held : List (Option A) → ℕ
  held [] = 0
  held (o ∷ rows) = cond (is_some o) (1 + held rows) (held rows)

  held-count : (rows : List (Option A)) → held rows ≡ count_by is_some rows
  held-count rows = is_count_by held is_some refl (λ o rows. refl) rows

  few_held : (rows : List (Option A)) (n : ℕ) → HoldsBelow rows n → held rows ≤ n
  few_held [] n below = omega arith
  few_held (None ∷ rows) zero below = few_held rows zero (λ x less. below (suc x) (omega arith))
  few_held (None ∷ rows) (suc n) below = let few = few_held rows n (λ x less. below (suc x) (omega (arith, less))) in omega (arith, few)
  few_held (Some r ∷ rows) zero below = absurd (let none : Some r ≡ None = below zero (omega arith) in cc)
  few_held (Some r ∷ rows) (suc n) below =
      let few = few_held rows n (λ x less. below (suc x) (omega (arith, less))) in
      omega (arith, few)

  all_held_by : (rows : List (Option A)) (n : ℕ) → n ≤ held rows → HoldsBelow rows n → (x : ℕ) → x < n → IsSome (slice_index_or rows x None)
  all_held_by [] n many below x less = absurd (omega (arith, many, less))
  all_held_by (o ∷ rows) zero many below x less = absurd (omega (arith, less))
  all_held_by (None ∷ rows) (suc n) many below x less =
      let few = few_held rows n (λ y from. below (suc y) (omega (arith, from))) in absurd (omega (arith, many, few))
  all_held_by (Some r ∷ rows) (suc n) many below zero less = refl
  all_held_by (Some r ∷ rows) (suc n) many below (suc x) less =
      all_held_by rows n (omega (arith, many)) (λ y from. below (suc y) (omega (arith, from))) x (omega (arith, less))

  -- where n places below n hold rows, each does
  pub all_held : (rows : List (Option A)) (n : ℕ) → n ≡ count_by is_some rows → HoldsBelow rows n → (x : ℕ) → x < n → IsSome (slice_index_or rows x None)
  all_held rows n many = all_held_by rows n (omega (arith, many, held-count rows))

  -- a row is written where one was
  pub HoldsBelow-set : (rows : List (Option A)) (n x : ℕ) (r : A) (o : Option A) → slice_index_or rows x None ≡ Some r → HoldsBelow rows n → HoldsBelow (slice_set rows x o) n
  HoldsBelow-set rows n x r o there below y from =
      elim (cases_eq y x) [
        | inl same ↦ absurd (let none : Some r ≡ None = sym there ∙ ap (λ z. slice_index_or rows z None) (sym same) ∙ below y from in cc)
        | inr other ↦ get_or-set_other rows x y o None other ∙ below y from
      ]

  -- a row is put below the new end
  pub HoldsBelow-more : (rows new : List (Option A)) (n m x : ℕ) → n ≤ m → x < m → ((y : ℕ) → y ≢ x → slice_index_or new y None ≡ slice_index_or rows y None) → HoldsBelow rows n → HoldsBelow new m
  HoldsBelow-more rows new n m x more within others below y from =
      others y (λ same. absurd (omega (arith, same, from, within))) ∙ below y (omega (arith, more, from))
