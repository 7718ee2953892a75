-- Rows that have been looked at, some after the others.
use Rattle.std.proofs.Common.{◌≡◌, ◌∙◌, ℕ, true, false, ◌+◌, ◌<◌, List, [], ◌∷◌, ◌++◌, length, Option, Some, None, Result, Ok, Err, refl, sym, ap, subst, inl, inr, arith, ◌⊎◌, ◌||◌, eqb, eqb-true}
use Rattle.std.proofs.lemmas.Bool.{cases_order, cases_Bool}
use Rattle.std.proofs.lemmas.Bool.Decides.{eqb_tells}
use Rattle.std.specs.Prelude.{IsSome, is_some, OnOk}
use Rattle.row_links.specs.Lists.{IsOn}
use Rattle.row_links.proofs.Lists.{IsOn-first, IsOn-append_left, IsOn-append_right, IsOn-append_cases}
use Rattle.undo_rows.specs.declared.row.Row.{Row as TableRow}
use Rattle.undo_rows.specs.Tables.{Table}
use Rattle.decision_rows.specs.declared.row.Pair.{Pair}
use Rattle.dist_net.specs.Net.{Nets}
use Rattle.occ_tree.specs.Standing.{State, forest, early}
use Rattle.joined.specs.Listed.{IsListedUnder}
use Rattle.bearing.specs.declared.what_moved.Moves.{Moves}
use Rattle.belief_table.specs.declared.state.Decisions.{Decisions}
use Rattle.belief_table.specs.Decided.{table_of}
use Rattle.belief_table.specs.Marks.{Marks, Wakes, WakesOf}
use Rattle.belief_table.specs.Numbers.{name_in}
use Rattle.belief_table.specs.Waiting.{Dates, Puts}
use Rattle.marking.specs.Woken.{MovesFor, RestsFor, WakesFor, MovesForSome, RestsForFirst, WakesForAll}

module _ (s : State) (t : Table Pair 8) where
  -- what waited waits on
  pub wait_still : (P R : ℕ → TableRow Pair 8 → Type 0) (old new : Dates) → Wakes s t P R old new → (i : ℕ) → is_some (old i) ≡ true → is_some (new i) ≡ true
  wait_still P R old new wakes i waits = elim (wakes.only i) [ inl same ↦ ap is_some same ∙ waits | inr marked ↦ ap is_some marked.3 ]

  pub wakes_none : (P R : ℕ → TableRow Pair 8 → Type 0) (dates : Dates) → ((i : ℕ) (row : TableRow Pair 8) → t.row i ≡ Some row → (is_some (dates i) ≡ true) ⊎ R i row) → Wakes s t P R dates dates
  wakes_none P R dates rests = record { only = λ i. inl refl; rests = rests }

  pub wakes_alike : (P R Q T : ℕ → TableRow Pair 8 → Type 0) (old new : Dates) → ((i : ℕ) (row : TableRow Pair 8) → t.row i ≡ Some row → P i row → Q i row)
      → ((i : ℕ) (row : TableRow Pair 8) → t.row i ≡ Some row → R i row → T i row) → Wakes s t P R old new → Wakes s t Q T old new
  wakes_alike P R Q T old new to rest wakes = record {
    only = λ i. elim (wakes.only i) [ inl same ↦ inl same | inr marked ↦ inr (marked.0, marked.1, to i marked.0 marked.1 marked.2, marked.3) ];
    rests = λ i row at. elim (wakes.rests i row at) [ inl waits ↦ inl waits | inr rests ↦ inr (rest i row at rests) ];
  }

  pub wakes_both : (P R Q T F G : ℕ → TableRow Pair 8 → Type 0) (old mid new : Dates) → ((i : ℕ) (row : TableRow Pair 8) → t.row i ≡ Some row → P i row → F i row)
      → ((i : ℕ) (row : TableRow Pair 8) → t.row i ≡ Some row → Q i row → F i row) → ((i : ℕ) (row : TableRow Pair 8) → t.row i ≡ Some row → R i row → T i row → G i row)
      → Wakes s t P R old mid → Wakes s t Q T mid new → Wakes s t F G old new
  wakes_both P R Q T F G old mid new from_p from_q together first then_ = record {
    only = λ i. elim (then_.only i) [
      | inl same ↦ elim (first.only i) [
        | inl before ↦ inl (same ∙ before)
        | inr marked ↦ inr (marked.0, marked.1, from_p i marked.0 marked.1 marked.2, same ∙ marked.3)
      ]
      | inr marked ↦ inr (marked.0, marked.1, from_q i marked.0 marked.1 marked.2, marked.3)
    ];
    rests = λ i row at. elim (then_.rests i row at) [
      | inl waits ↦ inl waits
      | inr rests ↦ elim (first.rests i row at) [
        | inl waited ↦ inl (wait_still Q T mid new then_ i waited)
        | inr rested ↦ inr (together i row at rested rests)
      ]
    ];
  }

  -- ---- at events of two kinds

  module _ (M R : ℕ → Type 0) where
    pub for_none : (are : ℕ → Type 0) (dates : Dates) → ((i : ℕ) → are i → ⊥) → WakesOf s t M R are dates dates
    for_none are dates none =
        wakes_none (λ i row. are i × M row.value.trigger) (λ i row. are i → R row.value.trigger) dates
        (λ i row at. inr (λ on. absurd (none i on)))

    pub for_both : (p q r : ℕ → Type 0) (old mid new : Dates) → ((i : ℕ) → r i → p i ⊎ q i) → ((i : ℕ) → p i → r i) → ((i : ℕ) → q i → r i)
        → WakesOf s t M R p old mid → WakesOf s t M R q mid new → WakesOf s t M R r old new
    for_both p q r old mid new apart from_p from_q =
        wakes_both (λ i row. p i × M row.value.trigger) (λ i row. p i → R row.value.trigger)
        (λ i row. q i × M row.value.trigger) (λ i row. q i → R row.value.trigger)
        (λ i row. r i × M row.value.trigger) (λ i row. r i → R row.value.trigger) old mid new
        (λ i row at h. (from_p i h.0, h.1)) (λ i row at h. (from_q i h.0, h.1))
        (λ i row at first then_ on. elim (apart i on) [ inl here ↦ first here | inr here ↦ then_ here ])

    -- a row that waited
    pub waited_on : (i : ℕ) (dates : Dates) → is_some (dates i) ≡ true → WakesOf s t M R (λ j. j ≡ i) dates dates
    waited_on i dates waits =
        wakes_none (λ j row. (j ≡ i) × M row.value.trigger) (λ j row. j ≡ i → R row.value.trigger) dates
        (λ j row at. elim (eqb_tells j i) [
          | inl same ↦ inl (ap (λ k. is_some (dates k)) same.1 ∙ waits)
          | inr other ↦ inr (λ same. absurd (other.1 same))
        ])

    -- a row that may rest
    pub rested : (i : ℕ) (row : TableRow Pair 8) (dates : Dates) → t.row i ≡ Some row → R row.value.trigger → WakesOf s t M R (λ j. j ≡ i) dates dates
    rested i row dates here rests =
        wakes_none (λ j row. (j ≡ i) × M row.value.trigger) (λ j row. j ≡ i → R row.value.trigger) dates
        (λ j other at. inr (λ same.
        (let both : Some row ≡ Some other = sym here ∙ ap t.row (sym same) ∙ at in
        let one : row ≡ other = cc in
        subst (λ (z : TableRow Pair 8). R z.value.trigger) one rests)))

    -- a row that may not
    pub woken : (i : ℕ) (row : TableRow Pair 8) (old new : Dates) → t.row i ≡ Some row → M row.value.trigger
        → Puts old new i (Some (early s row.value.trigger)) → WakesOf s t M R (λ j. j ≡ i) old new
    woken i row old new here moved puts = record {
      only = λ j. elim (eqb_tells j i) [
        | inl same ↦ inr (row, ap t.row same.1 ∙ here, (same.1, moved), ap new same.1 ∙ puts.at)
        | inr other ↦ inl (puts.others j other.1)
      ];
      rests = λ j other at. elim (eqb_tells j i) [
        | inl same ↦ inl (ap (λ k. is_some (new k)) same.1 ∙ ap is_some puts.at)
        | inr apart ↦ inr (λ same. absurd (apart.1 same))
      ];
    }

    -- ---- along a list

    pub front_start : (dates : Dates) → WakesOf s t M R (IsOn []) dates dates
    front_start dates = for_none (IsOn []) dates (λ i on. (let no : false ≡ true = on in cc))

    pub front_next : (front : List ℕ) (i : ℕ) (old mid new : Dates) → WakesOf s t M R (IsOn front) old mid → WakesOf s t M R (λ j. j ≡ i) mid new
        → WakesOf s t M R (IsOn (front ++ i ∷ [])) old new
    front_next front i old mid new = for_both (IsOn front) (λ j. j ≡ i) (IsOn (front ++ i ∷ [])) old mid new
        (λ j on. elim (IsOn-append_cases front (i ∷ []) j on) [ inl there ↦ inl there | inr here ↦ inr (alone i j here) ])
        (λ j on. IsOn-append_left front (i ∷ []) j on)
        (λ j is. IsOn-append_right front (i ∷ []) j (subst (λ k. IsOn (i ∷ []) k) (sym is) (IsOn-first i [])))
      where
        alone : (i j : ℕ) → IsOn (i ∷ []) j → j ≡ i
        alone i j on = elim (cases_Bool (eqb j i)) [ inl same ↦ eqb-true j i same | inr other ↦ (let no : false ≡ true = sym (ap (λ b. b || false) other) ∙ on in cc) ]

    -- ---- by the lists of one family after the other

    -- the row is on a list of the class in one of the first families
    abbrev pub UnderFirst : ℕ → ℕ → ℕ → Type 0
    UnderFirst n k i = (place : ℕ) × (place < n) × IsOn (t.list (place + 2) k) i

    pub under_none : (k : ℕ) (dates : Dates) → WakesOf s t M R (UnderFirst 0 k) dates dates
    under_none k dates = for_none (UnderFirst 0 k) dates (λ i (a, less, on). omega (arith, less))

    pub under_next : (n k : ℕ) (old mid new : Dates) → WakesOf s t M R (UnderFirst n k) old mid → WakesOf s t M R (IsOn (t.list (n + 2) k)) mid new
        → WakesOf s t M R (UnderFirst (n + 1) k) old new
    under_next n k old mid new = for_both (UnderFirst n k) (IsOn (t.list (n + 2) k)) (UnderFirst (n + 1) k) old mid new
        (λ i (a, less, on). elim (cases_order a n) [
          | inl same ↦ inr (subst (λ z. IsOn (t.list (z + 2) k) i) same on)
          | inr other ↦ elim other [ inl below ↦ inl (a, below, on) | inr above ↦ absurd (omega (arith, less, above)) ]
        ])
        (λ i (a, less, on). (a, omega (arith, less), on))
        (λ i on. (n, omega arith, on))

    -- the lists of all six families have been looked at
    pub under_all : (n k : ℕ) (old new : Dates) → n ≡ 6 → WakesOf s t M R (UnderFirst n k) old new → WakesOf s t M R (IsListedUnder t k) old new
    under_all n k old new whole =
        wakes_alike (λ i row. UnderFirst n k i × M row.value.trigger) (λ i row. UnderFirst n k i → R row.value.trigger)
        (λ i row. IsListedUnder t k i × M row.value.trigger) (λ i row. IsListedUnder t k i → R row.value.trigger) old new
        (λ i row at h. (let less = h.0.1 in ((h.0.0, omega (arith, less, whole), h.0.2), h.1)))
        (λ i row at rests (a, less, on). rests (a, omega (arith, less, whole), on))

-- ---- by classes, one after the other

module _ (s : State) (nets : Nets) (moves : Moves) (d : Decisions) where
  pub classes_none : (dates : Dates) → WakesForAll s nets moves d 0 dates dates
  classes_none dates = wakes_none s (table_of d) (MovesForSome s moves d) (RestsForFirst s nets moves d 0) dates (λ i row at. inr (λ k less. absurd (omega (arith, less))))

  pub classes_next : (n : ℕ) (old mid new : Dates) → n < length d.classes → WakesForAll s nets moves d n old mid
      → WakesFor s (table_of d) nets moves (name_in d.classes n) (IsListedUnder (table_of d) n) mid new → WakesForAll s nets moves d (n + 1) old new
  classes_next n old mid new short =
      wakes_both s (table_of d) (MovesForSome s moves d) (RestsForFirst s nets moves d n)
      (λ i row. IsListedUnder (table_of d) n i × MovesFor moves (forest s) (name_in d.classes n) row.value.trigger)
      (λ i row. IsListedUnder (table_of d) n i → RestsFor nets moves (forest s) (name_in d.classes n) row.value.trigger)
      (MovesForSome s moves d) (RestsForFirst s nets moves d (n + 1)) old mid new
      (λ i row at m. m)
      (λ i row at m. (n, short, m.0, m.1))
      (λ i row at first last k less on. elim (cases_order k n) [
        | inl same ↦ subst (λ z. RestsFor nets moves (forest s) (name_in d.classes z) row.value.trigger) (sym same) (last (subst (λ z. IsListedUnder (table_of d) z i) same on))
        | inr other ↦ elim other [ inl below ↦ first k below on | inr above ↦ absurd (omega (arith, less, above)) ]
      ])

-- ---- marks

-- rows that are marked exactly have been looked at, if each that is not marked is at rest
pub marks_wake : (s : State) (t : Table Pair 8) (P R : ℕ → TableRow Pair 8 → Type 0) (old new : Dates) → ((i : ℕ) (row : TableRow Pair 8) → t.row i ≡ Some row → P i row ⊎ R i row)
    → Marks s t P old new → Wakes s t P R old new
marks_wake s t P R old new or_rests marks = record {
  only = marks.only;
  rests = λ i row at. elim (or_rests i row at) [ inl marked ↦ inl (ap is_some (marks.all i row at marked)) | inr rests ↦ inr rests ];
}

-- of those that are marked exactly none rests
pub marks_rest : (s : State) (t : Table Pair 8) (P Q : ℕ → TableRow Pair 8 → Type 0) (old new : Dates) → Marks s t (λ i row. P i row × Q i row) old new
    → Wakes s t (λ i row. P i row × Q i row) (λ i row. P i row → Q i row → ⊥) old new
marks_rest s t P Q old new marks = record {
  only = marks.only;
  rests = λ i row at. elim (cases_Bool (is_some (new i))) [
    | inl waits ↦ inl waits
    | inr off ↦ inr (λ p q.
        let waits = ap is_some (marks.all i row at (p, q)) in
        let no : true ≡ false = sym waits ∙ off in
        cc)
  ];
}

-- what follows on success from what holds on success
pub ok_then : {T E P Q : Type 0} (r : Result T E) → (P → Q) → OnOk r P → OnOk r Q
ok_then (Ok x) to p = to p
ok_then (Err e) to p = p

-- the row of a number that has one
pub some_row : (o : Option (TableRow Pair 8)) → IsSome o → (row : TableRow Pair 8) × (o ≡ Some row)
some_row (Some row) h = (row, refl)
some_row None h = absurd (cc (h))
