-- Rows that are let wait by their events, one rule after the other.
use Rattle.std.proofs.Common.{◌≡◌, ◌∙◌, ℕ, true, false, ◌+◌, ◌<◌, List, [], ◌∷◌, ◌++◌, Some, sym, ap, subst, inl, inr, arith, ◌⊎◌, ◌||◌, eqb, eqb-true}
use Rattle.std.specs.Prelude.{◌↔◌}
use Rattle.std.proofs.lemmas.Bool.{cases_order, cases_Bool}
use Rattle.row_links.specs.Lists.{IsOn}
use Rattle.row_links.proofs.Lists.{IsOn-first, IsOn-append_left, IsOn-append_right, IsOn-append_cases}
use Rattle.undo_rows.specs.declared.row.Row.{Row as TableRow}
use Rattle.undo_rows.specs.Tables.{Table, AreListed}
use Rattle.decision_rows.specs.Decisions.{classes_in}
use Rattle.decision_rows.specs.declared.row.Pair.{Pair}
use Rattle.tmm_model.specs.Standing.{Standing}
use Rattle.occ_tree.specs.Standing.{State}
use Rattle.joined.proofs.Listed.{pairs_listed}
use Rattle.bearing.specs.declared.events.Events.{Events}
use Rattle.belief_table.specs.declared.state.Decisions.{Decisions}
use Rattle.bearing.specs.Events.{is_event_of}
use Rattle.belief_table.specs.ByEvent.{IsOfRuleAt}
use Rattle.belief_table.specs.Decided.{table_of, AreUnder}
use Rattle.belief_table.specs.Marks.{Marks}
use Rattle.belief_table.specs.Waiting.{Dates}
use Rattle.belief_table.proofs.Marked.{marks_none, marks_both}

-- rows that are there are marked alike by what is alike of them
pub marks_alike : (s : State) (t : Table Pair 8) (P Q : ℕ → TableRow Pair 8 → Type 0) (old new : Dates)
    → ((i : ℕ) (row : TableRow Pair 8) → t.row i ≡ Some row → P i row ↔ Q i row) → Marks s t P old new → Marks s t Q old new
marks_alike s t P Q old new alike marks = record {
  all = λ i row at q. marks.all i row at ((alike i row at).1 q);
  only = λ i. elim (marks.only i) [
    | inl same ↦ inl same
    | inr marked ↦ inr (marked.0, marked.1, (alike i marked.0 marked.1).0 marked.2, marked.3)
  ];
}

-- ---- along a list

module _ (s : State) (t : Table Pair 8) (events : Events) where
  -- the rows of the front of a list that are at the events
  abbrev pub AtFront : List ℕ → ℕ → TableRow Pair 8 → Type 0
  AtFront front i row = IsOn front i × (is_event_of events s row.value.trigger ≡ true)

  pub front_start : (dates : Dates) → Marks s t (AtFront []) dates dates
  front_start dates = marks_none s t (AtFront []) dates (λ i row on. (let no : false ≡ true = on.0 in cc))

  pub front_next : (front : List ℕ) (i : ℕ) (old mid new : Dates) → Marks s t (AtFront front) old mid
      → Marks s t (λ j row. (j ≡ i) × (is_event_of events s row.value.trigger ≡ true)) mid new → Marks s t (AtFront (front ++ i ∷ [])) old new
  front_next front i old mid new = marks_both s t (AtFront front) (λ j row. (j ≡ i) × (is_event_of events s row.value.trigger ≡ true)) (AtFront (front ++ i ∷ [])) old mid new
      (λ j row on. elim (IsOn-append_cases front (i ∷ []) j on.0) [ inl there ↦ inl (there, on.1) | inr here ↦ inr (alone i j here, on.1) ])
      (λ j row on. (IsOn-append_left front (i ∷ []) j on.0, on.1))
      (λ j row is. (IsOn-append_right front (i ∷ []) j (subst (λ k. IsOn (i ∷ []) k) (sym is.0) (IsOn-first i [])), is.1))
    where
      alone : (i j : ℕ) → IsOn (i ∷ []) j → j ≡ i
      alone i j on = elim (cases_Bool (eqb j i)) [ inl same ↦ eqb-true j i same | inr other ↦ (let no : false ≡ true = sym (ap (λ b. b || false) other) ∙ on in cc) ]

-- ---- by the rules, one after the other

-- the row is of one of the first n rules
abbrev pub OfFirst : (TableRow Pair 8 → Type 0) → ℕ → ℕ → TableRow Pair 8 → Type 0
OfFirst P n i row = (row.value.rule < n) × P row

module _ (list : Standing) (d : Decisions) (under : AreUnder list d) (listed : AreListed (table_of d)) where
  pub on_rule : (i n : ℕ) (row : TableRow Pair 8) → (table_of d).row i ≡ Some row → IsOn ((table_of d).list 1 n) i ↔ (row.value.rule ≡ n)
  on_rule i n row at = let u = under.classes i row at in (pairs_listed d.rows i n row (classes_in u.classes) listed at u.heads).1

  pub rules_next : (s : State) (P : TableRow Pair 8 → Type 0) (n : ℕ) (events : Events) (old mid new : Dates)
      → ((i : ℕ) (row : TableRow Pair 8) → (table_of d).row i ≡ Some row → row.value.rule ≡ n → (is_event_of events s row.value.trigger ≡ true) ↔ P row)
      → Marks s (table_of d) (OfFirst P n) old mid → Marks s (table_of d) (IsOfRuleAt (table_of d) n events s) mid new
      → Marks s (table_of d) (OfFirst P (n + 1)) old new
  rules_next s P n events old mid new is first then_ =
      marks_both s (table_of d) (OfFirst P n) (λ i row. (row.value.rule ≡ n) × P row) (OfFirst P (n + 1)) old mid new
      apart
      (λ i row of. (let less = of.0 in (omega (arith, less), of.1)))
      (λ i row of. (let same = of.0 in (omega (arith, same), of.1)))
      first
      (marks_alike s (table_of d) (IsOfRuleAt (table_of d) n events s) (λ i row. (row.value.rule ≡ n) × P row) mid new
      (λ i row at. (
        (λ on. (let same = (on_rule i n row at).0 on.0 in (same, (is i row at same).0 on.1))),
        λ of. ((on_rule i n row at).1 of.0, (is i row at of.0).1 of.1),
      ))
      then_)
    where
      apart : (i : ℕ) (row : TableRow Pair 8) → OfFirst P (n + 1) i row → OfFirst P n i row ⊎ ((row.value.rule ≡ n) × P row)
      apart i row (less, p) = elim (cases_order row.value.rule n) [
        | inl same ↦ inr (same, p)
        | inr other ↦ elim other [ inl below ↦ inl (below, p) | inr above ↦ absurd (omega (arith, less, above)) ]
      ]
