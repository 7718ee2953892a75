-- Rows that are let wait, some after the others.
use Rattle.std.proofs.Common.{◌≡◌, ◌∙◌, ℕ, Bool, true, false, ◌+◌, ◌<◌, cond, List, [], ◌∷◌, ◌++◌, Option, Some, None, refl, sym, ap, subst, inl, inr, arith, ◌⊎◌, ◌||◌, eqb, eqb-true}
use Rattle.std.proofs.lemmas.Bool.{cases_order, cases_Bool}
use Rattle.std.specs.Prelude.{ℤ}
use Rattle.row_links.specs.Lists.{IsOn}
use Rattle.row_links.proofs.Lists.{IsOn-first, IsOn-append_left, IsOn-append_right, IsOn-append_cases}
use Rattle.undo_rows.specs.declared.row.Row.{Row as TableRow}
use Rattle.undo_rows.specs.Tables.{Table, AreListed, live}
use Rattle.decision_rows.specs.declared.row.Pair.{Pair}
use Rattle.occ_tree.specs.Standing.{State}
use Rattle.belief_table.specs.Marks.{Marks, WaitsAt, IsAsLate}
use Rattle.belief_table.specs.Waiting.{Dates}
use Rattle.std.proofs.Common.{ℤ}

-- a row that is listed is there
live_row : (o : Option (TableRow Pair 8)) (r : TableRow Pair 8) → live o ≡ Some r → o ≡ Some r
live_row None r e = cc
live_row (Some q) r e = by q.gone e
  where
    by : (b : Bool) → cond b None (Some q) ≡ Some r → Some q ≡ Some r
    by true e = absurd (cc)
    by false e = e

pub listed_row : (t : Table Pair 8) → AreListed t → (f h i : ℕ) → IsOn (t.list f h) i → (r : TableRow Pair 8) × (t.row i ≡ Some r)
listed_row t listed f h i on = let (r, at, head) = (listed.each i f h).0 on in (r, live_row (t.row i) r at)

module _ (s : State) (t : Table Pair 8) where
  pub marks_none : (P : ℕ → TableRow Pair 8 → Type 0) (dates : Dates) → ((i : ℕ) (row : TableRow Pair 8) → P i row → ⊥) → Marks s t P dates dates
  marks_none P dates none = record { all = λ i row at p. absurd (none i row p); only = λ i. inl refl }

  pub marks_both : (P Q R : ℕ → TableRow Pair 8 → Type 0) (old mid new : Dates) → ((i : ℕ) (row : TableRow Pair 8) → R i row → P i row ⊎ Q i row)
      → ((i : ℕ) (row : TableRow Pair 8) → P i row → R i row) → ((i : ℕ) (row : TableRow Pair 8) → Q i row → R i row)
      → Marks s t P old mid → Marks s t Q mid new → Marks s t R old new
  marks_both P Q R old mid new apart from_p from_q first then_ = record { all = all; only = only }
    where
      same_row : (i : ℕ) (row other : TableRow Pair 8) → t.row i ≡ Some row → t.row i ≡ Some other → WaitsAt s new i other → WaitsAt s new i row
      same_row i row other at there waits = let both : Some other ≡ Some row = sym there ∙ at in let one : other ≡ row = cc in subst (WaitsAt s new i) one waits

      all : (i : ℕ) (row : TableRow Pair 8) → t.row i ≡ Some row → R i row → WaitsAt s new i row
      all i row at r = elim (apart i row r) [
        | inl p ↦ elim (then_.only i) [
          | inl same ↦ same ∙ first.all i row at p
          | inr marked ↦ same_row i row marked.0 at marked.1 marked.3
        ]
        | inr q ↦ then_.all i row at q
      ]

      only : (i : ℕ) → (new i ≡ old i) ⊎ ((row : TableRow Pair 8) × (t.row i ≡ Some row) × R i row × WaitsAt s new i row)
      only i = elim (then_.only i) [
        | inl same ↦ elim (first.only i) [
          | inl before ↦ inl (same ∙ before)
          | inr marked ↦ inr (marked.0, marked.1, from_p i marked.0 marked.2, same ∙ marked.3)
        ]
        | inr marked ↦ inr (marked.0, marked.1, from_q i marked.0 marked.2, marked.3)
      ]

  module _ (from : ℤ) (spares : ℕ → Bool) where
    -- ---- along a list

    -- the rows of the front of a list that are late enough, at events that are not spared
    abbrev pub OnFront : List ℕ → ℕ → TableRow Pair 8 → Type 0
    OnFront front i row = IsOn front i × IsAsLate s from row × (spares row.value.trigger ≡ false)

    pub marks_start : (dates : Dates) → Marks s t (OnFront []) dates dates
    marks_start dates = marks_none (OnFront []) dates (λ i row on. (let no : false ≡ true = on.0 in cc))

    pub marks_next : (front : List ℕ) (i : ℕ) (old mid new : Dates) → Marks s t (OnFront front) old mid
        → Marks s t (λ j row. (j ≡ i) × IsAsLate s from row × (spares row.value.trigger ≡ false)) mid new
        → Marks s t (OnFront (front ++ i ∷ [])) old new
    marks_next front i old mid new =
        marks_both (OnFront front) (λ j row. (j ≡ i) × IsAsLate s from row × (spares row.value.trigger ≡ false)) (OnFront (front ++ i ∷ [])) old mid new
        (λ j row on. elim (IsOn-append_cases front (i ∷ []) j on.0) [ inl there ↦ inl (there, on.1, on.2) | inr here ↦ inr (alone i j here, on.1, on.2) ])
        (λ j row on. (IsOn-append_left front (i ∷ []) j on.0, on.1, on.2))
        (λ j row is. (IsOn-append_right front (i ∷ []) j (subst (λ k. IsOn (i ∷ []) k) (sym is.0) (IsOn-first i [])), is.1, is.2))
      where
        alone : (i j : ℕ) → IsOn (i ∷ []) j → j ≡ i
        alone i j on = elim (cases_Bool (eqb j i)) [ inl same ↦ eqb-true j i same | inr other ↦ (let no : false ≡ true = sym (ap (λ b. b || false) other) ∙ on in cc) ]

    -- ---- by the lists of one family after the other

    -- the row is on a list of the class in one of the first families, late enough, and its event
    -- not spared
    abbrev pub UnderFirst : ℕ → ℕ → ℕ → TableRow Pair 8 → Type 0
    UnderFirst n class i row = ((place : ℕ) × (place < n) × IsOn (t.list (place + 2) class) i) × IsAsLate s from row × (spares row.value.trigger ≡ false)

    pub under_none : (class : ℕ) (dates : Dates) → Marks s t (UnderFirst 0 class) dates dates
    under_none class dates = marks_none (UnderFirst 0 class) dates (λ i row under. (let less = under.0.1 in omega (arith, less)))

    pub under_next : (n class : ℕ) (old mid new : Dates) → Marks s t (UnderFirst n class) old mid
        → Marks s t (λ i row. IsOn (t.list (n + 2) class) i × IsAsLate s from row × (spares row.value.trigger ≡ false)) mid new
        → Marks s t (UnderFirst (n + 1) class) old new
    under_next n class old mid new =
        marks_both (UnderFirst n class) (λ i row. IsOn (t.list (n + 2) class) i × IsAsLate s from row × (spares row.value.trigger ≡ false)) (UnderFirst (n + 1) class) old mid new
        apart
        (λ i row ((a, less, on), late, unspared). ((a, omega (arith, less), on), late, unspared))
        (λ i row (on, late, unspared). ((n, omega arith, on), late, unspared))
      where
        apart : (i : ℕ) (row : TableRow Pair 8) → UnderFirst (n + 1) class i row
            → UnderFirst n class i row ⊎ (IsOn (t.list (n + 2) class) i × IsAsLate s from row × (spares row.value.trigger ≡ false))
        apart i row ((a, less, on), late, unspared) = elim (cases_order a n) [
          | inl same ↦ inr (subst (λ k. IsOn (t.list (k + 2) class) i) same on, late, unspared)
          | inr other ↦ elim other [ inl below ↦ inl ((a, below, on), late, unspared) | inr above ↦ absurd (omega (arith, less, above)) ]
        ]

-- where no event is spared, those rows are meant that are late enough
pub none_spared : (s : State) (t : Table Pair 8) (On : ℕ → Type 0) (from : ℤ) (old new : Dates)
    → Marks s t (λ i row. On i × IsAsLate s from row × (◌≡◌ {A = Bool} false false)) old new → Marks s t (λ i row. On i × IsAsLate s from row) old new
none_spared s t On from old new m = record {
  all = λ i row at (on, late). m.all i row at (on, late, refl);
  only = λ i. elim (m.only i) [ inl same ↦ inl same | inr (row, at, (on, late, _), waits) ↦ inr (row, at, (on, late), waits) ];
}

-- a number is of one row
pub one_row : (t : Table Pair 8) (i : ℕ) (row other : TableRow Pair 8) → t.row i ≡ Some row → t.row i ≡ Some other → row ≡ other
one_row t i row other at there = let both : Some row ≡ Some other = sym at ∙ there in cc
