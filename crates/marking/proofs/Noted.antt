-- Rows that read a class of some, one class after the other.
use Rattle.std.proofs.Common.{◌≡◌, ◌∙◌, ℕ, List, [], ◌∷◌, ◌++◌, Some, refl, sym, ap, subst, inl, inr, ◌⊎◌}
use Rattle.std.specs.Prelude.{pos}
use Rattle.list_theory.proofs.Elements.{In-left, In-right, In-cases}
use Rattle.undo_rows.specs.declared.row.Row.{Row as TableRow}
use Rattle.undo_rows.specs.Changes.{Logged, present as table}
use Rattle.undo_rows.specs.Tables.{AreListed}
use Rattle.decision_rows.specs.declared.row.Pair.{Pair}
use Rattle.occ_tree.specs.Classes.{place_in}
use Rattle.occ_tree.specs.Standing.{State}
use Rattle.occ_tree.proofs.Numbered.{no_more, place_stays}
use Rattle.joined.specs.Listed.{IsListedUnder}
use Rattle.belief_table.specs.declared.state.Decisions.{Decisions}
use Rattle.marking.specs.LeftMarks.{ReadsOneOf, MarksClasses}
use Rattle.belief_table.specs.Decided.{table_of, KeepsLast}
use Rattle.marking.specs.TokenMarks.{MarksClass}
use Rattle.belief_table.specs.Marks.{Marks, IsAsLate}
use Rattle.belief_table.specs.Waiting.{dates_in}
use Rattle.belief_table.proofs.Marked.{marks_none, marks_both}
use Rattle.belief_table.proofs.Named.{more_more}

module _ (s : State) where
  pub classes_none : (d : Decisions) → AreListed (table_of d) → MarksClasses s [] d d
  classes_none d listed = record {
    rows = refl;
    rules = refl;
    listed = listed;
    more = no_more d.classes;
    numbered = λ c at. absurd at;
    marks = marks_none s (table_of d) (λ i row. ReadsOneOf (table_of d) d.classes [] i × IsAsLate s (pos 0) row) (dates_in d.waiting) (λ i row reads. reads.0.2);
  }

  module _ (front : List (List ℕ)) (class : List ℕ) (old mid new : Decisions) (p : MarksClasses s front old mid) (q : MarksClass s class (pos 0) mid new) (last : KeepsLast mid new) where
    abbrev First : ℕ → TableRow Pair 8 → Type 0
    First i row = ReadsOneOf (table_of old) mid.classes front i × IsAsLate s (pos 0) row

    abbrev Then : ℕ → TableRow Pair 8 → Type 0
    Then i row = IsListedUnder (table_of old) q.number i × IsAsLate s (pos 0) row

    abbrev Both : ℕ → TableRow Pair 8 → Type 0
    Both i row = ReadsOneOf (table_of old) new.classes (front ++ class ∷ []) i × IsAsLate s (pos 0) row

    parted : (i : ℕ) (row : TableRow Pair 8) → Both i row → First i row ⊎ Then i row
    parted i row ((c, k, at, is, on), late) = elim (In-cases front (class ∷ []) c at) [
      | inl there ↦ (
          let (j, was) = p.numbered c there in
          let both : Some k ≡ Some j = sym is ∙ place_stays mid.classes new.classes last.classes c j was in
          let one : k ≡ j = cc in
          inl ((c, j, there, was, subst (λ z. IsListedUnder (table_of old) z i) one on), late))
      | inr here ↦ elim here [
        | inl same ↦ (
            let both : Some k ≡ Some q.number = sym is ∙ ap (place_in new.classes) (sym same) ∙ q.numbered in
            let one : k ≡ q.number = cc in
            inr (subst (λ z. IsListedUnder (table_of old) z i) one on, late))
        | inr none ↦ absurd none
      ]
    ]

    from_first : (i : ℕ) (row : TableRow Pair 8) → First i row → Both i row
    from_first i row ((c, k, at, is, on), late) = ((c, k, In-left front (class ∷ []) c at, place_stays mid.classes new.classes last.classes c k is, on), late)

    from_then : (i : ℕ) (row : TableRow Pair 8) → Then i row → Both i row
    from_then i row (on, late) = ((class, q.number, In-right front (class ∷ []) class (inl refl), q.numbered, on), late)

    pub classes_next : MarksClasses s (front ++ class ∷ []) old new
    classes_next = record {
      rows = q.rows ∙ p.rows;
      rules = q.rules ∙ p.rules;
      listed = p.listed;
      more = more_more old.classes mid.classes new.classes p.more last.classes;
      numbered = λ c at. elim (In-cases front (class ∷ []) c at) [
        | inl there ↦ (let (k, is) = p.numbered c there in (k, place_stays mid.classes new.classes last.classes c k is))
        | inr here ↦ elim here [ inl same ↦ (q.number, subst (λ z. place_in new.classes z ≡ Some q.number) same q.numbered) | inr none ↦ absurd none ]
      ];
      marks = marks_both s (table_of old) First Then Both (dates_in old.waiting) (dates_in mid.waiting) (dates_in new.waiting) parted from_first from_then p.marks
          (subst (λ (rs : Logged Pair 8). Marks s (table rs) (λ i row. IsListedUnder (table rs) q.number i × IsAsLate s (pos 0) row) (dates_in mid.waiting) (dates_in new.waiting)) p.rows q.marks);
    }
