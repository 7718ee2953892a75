-- Rows that enter, some after the others.
use Rattle.std.proofs.Common.{◌≡◌, ◌≢◌, ◌∙◌, ℕ, ℤ, ◌+◌, ◌<◌, ◌≤◌, cond, List, [], ◌∷◌, ◌++◌, length, map, Some, None, refl, sym, ap, subst, inl, inr, ◌⊎◌, arith}
use Rattle.std.proofs.lemmas.Bool.{eq-eqb}
use Rattle.std.proofs.lemmas.List.{length-append}
use Rattle.std.proofs.lemmas.Bool.Decides.{eqb_tells}
use Rattle.tmm_model.specs.Beliefs.{class_of}
use Rattle.tmm_model.specs.Moments.{read_by, rule_of}
use Rattle.tmm_model.specs.Standing.{Standing}
use Rattle.list_theory.proofs.Elements.{In, In-left, In-right, In-cases}
use Rattle.undo_rows.specs.declared.row.Row.{Row as TableRow}
use Rattle.undo_rows.specs.Edits.{Adds}
use Rattle.undo_rows.specs.Tables.{Table}
use Rattle.decision_rows.specs.Decisions.{classes_in, new_row}
use Rattle.decision_rows.specs.declared.row.Pair.{Pair}
use Rattle.occ_tree.specs.Classes.{place_in}
use Rattle.occ_tree.proofs.Numbered.{place_within, placed_name}
use Rattle.joined.specs.Listed.{IsUnderClasses}
use Rattle.belief_table.specs.declared.state.Decisions.{Decisions}
use Rattle.belief_table.specs.Decided.{table_of, rule_in, AreUnder, IsNewRow, IsSameRow, AddsRows, KeepsLast}
use Rattle.belief_table.specs.Numbers.{name_in}
use Rattle.belief_table.specs.Waiting.{dates_in, Puts}
use Rattle.belief_table.proofs.Named.{name_stays, under_more}
use Rattle.belief_table.proofs.Marked.{one_row}

-- ---- one row

module _ (s : Standing) (event number i : ℕ) (date : ℤ) (rule : List ℕ) (read : List (List ℕ)) (classes : List ℕ) (old new : Decisions)
    (under : AreUnder s old) (last : KeepsLast old new) (numbered : place_in new.rules rule ≡ Some number) (text : read ≡ read_by (rule_of s rule))
    (few : length classes ≤ 6) (numbers : map (λ fact. place_in new.classes (class_of s fact)) read ≡ map Some classes)
    (adds : Adds old.rows new.rows i (new_row event number (classes_in classes))) (puts : Puts (dates_in old.waiting) (dates_in new.waiting) i (Some date)) where
  here : (table_of new).row i ≡ Some (new_row event number (classes_in classes))
  here = ap (λ (t : Table Pair 8). t.row i) adds.present_is ∙ ap (λ b. cond b (Some (new_row event number (classes_in classes))) ((table_of old).row i)) (eq-eqb i i refl)

  others : (j : ℕ) → j ≢ i → (table_of new).row j ≡ (table_of old).row j
  others j other = elim (eqb_tells j i) [
    | inl same ↦ absurd (other same.1)
    | inr apart ↦ ap (λ (t : Table Pair 8). t.row j) adds.present_is ∙ ap (λ b. cond b (Some (new_row event number (classes_in classes))) ((table_of old).row j)) apart.0
  ]

  named : name_in new.rules number ≡ rule
  named = placed_name new.rules rule number numbered

  is_new : IsNewRow event date old new i (new_row event number (classes_in classes))
  is_new = record { free = adds.free; there = here; at_event = refl; undecided = refl; waits = puts.at }

  -- a new row is that one
  only : (j : ℕ) (r : TableRow Pair 8) → IsNewRow event date old new j r → j ≡ i
  only j r at = elim (eqb_tells j i) [
    | inl same ↦ same.1
    | inr apart ↦ absurd (let both : None ≡ Some r = sym at.free ∙ sym (others j apart.1) ∙ at.there in cc)
  ]

  pub row_adds : AddsRows (rule ∷ []) event date old new
  row_adds = record {
    each = λ j. elim (eqb_tells j i) [
      | inl same ↦ inr (new_row event number (classes_in classes), subst (λ k. IsNewRow event date old new k (new_row event number (classes_in classes))) (sym same.1) is_new, inl (sym named))
      | inr apart ↦ inl (record { row = others j apart.1; waits = puts.others j apart.1 })
    ];
    all = λ r at. elim at [ inl is ↦ (i, new_row event number (classes_in classes), is_new, named ∙ is) | inr none ↦ absurd none ];
    apart = λ j k r other at there same. only j r at ∙ sym (only k other there);
  }

  pub row_under : AreUnder s new
  row_under = record {
    classes = λ j r at. elim (eqb_tells j i) [
      | inl same ↦ (
          let one : new_row event number (classes_in classes) ≡ r = one_row (table_of new) i (new_row event number (classes_in classes)) r here (ap (table_of new).row (sym same.1) ∙ at) in
          subst (IsUnderClasses s (name_in new.rules) (place_in new.classes)) one (record {
            classes = classes;
            few = few;
            numbers = subst (λ name. map (λ fact. place_in new.classes (class_of s fact)) (read_by (rule_of s name)) ≡ map Some classes) (sym named)
                (subst (λ l. map (λ fact. place_in new.classes (class_of s fact)) l ≡ map Some classes) text numbers);
            heads = refl;
          }))
      | inr apart ↦ (
          let was = sym (others j apart.1) ∙ at in
          under_more s old.rules new.rules old.classes new.classes r last.rules last.classes (under.named j r was) (under.classes j r was))
    ];
    named = λ j r at. elim (eqb_tells j i) [
      | inl same ↦ (
          let one : new_row event number (classes_in classes) ≡ r = one_row (table_of new) i (new_row event number (classes_in classes)) r here (ap (table_of new).row (sym same.1) ∙ at) in
          subst (λ (z : TableRow Pair 8). z.value.rule < length new.rules) one (place_within new.rules rule number numbered))
      | inr apart ↦ (
          let was = sym (others j apart.1) ∙ at in
          let less = under.named j r was in
          let (more, is) = last.rules in
          let long : length new.rules ≡ length old.rules + length more = ap length is ∙ length-append old.rules more in
          omega (arith, less, long))
    ];
  }

-- ---- none, and more

module _ (s : Standing) (event : ℕ) (date : ℤ) (rules more : List (List ℕ)) (old mid new : Decisions) (under : AreUnder s mid) (last : KeepsLast mid new)
    (first : AddsRows rules event date old mid) (then_ : AddsRows more event date mid new) (distinct : (rule : List ℕ) → In rule rules → In rule more → ⊥) where
  -- a row that was there in between is there in the end
  stays : (i : ℕ) (row : TableRow Pair 8) → (table_of mid).row i ≡ Some row → IsSameRow mid new i
  stays i row at = elim (then_.each i) [
    | inl same ↦ same
    | inr added ↦ absurd (let both : None ≡ Some row = sym added.1.free ∙ at in cc)
  ]

  -- a new row of the first ones
  from_first : (i : ℕ) (row : TableRow Pair 8) → IsNewRow event date old mid i row → IsNewRow event date old new i row × (rule_in new row ≡ rule_in mid row)
  from_first i row at =
      let same = stays i row at.there in (
        record { free = at.free; there = same.row ∙ at.there; at_event = at.at_event; undecided = at.undecided; waits = same.waits ∙ at.waits },
        name_stays mid.rules new.rules row.value.rule last.rules (under.named i row at.there),
      )

  -- and one of the others
  from_then : (i : ℕ) (row : TableRow Pair 8) → IsNewRow event date mid new i row → IsNewRow event date old new i row
  from_then i row at = elim (first.each i) [
    | inl same ↦ record { free = sym same.row ∙ at.free; there = at.there; at_event = at.at_event; undecided = at.undecided; waits = at.waits }
    | inr added ↦ absurd (let both : None ≡ Some added.0 = sym at.free ∙ added.1.there in cc)
  ]

  -- a new row is one of the first, or of the others
  parted : (i : ℕ) (row : TableRow Pair 8) → IsNewRow event date old new i row
      → (IsNewRow event date old mid i row × In (rule_in new row) rules) ⊎ (IsNewRow event date mid new i row × In (rule_in new row) more)
  parted i row at = elim (first.each i) [
    | inl same ↦ elim (then_.each i) [
      | inl again ↦ absurd (let both : None ≡ Some row = sym at.free ∙ sym same.row ∙ sym again.row ∙ at.there in cc)
      | inr added ↦ (
          let one = one_row (table_of new) i added.0 row added.1.there at.there in
          inr (subst (IsNewRow event date mid new i) one added.1, subst (λ r. In (rule_in new r) more) one added.2))
    ]
    | inr added ↦ (
        let (then_new, named) = from_first i added.0 added.1 in
        let one = one_row (table_of new) i added.0 row then_new.there at.there in
        inl (subst (IsNewRow event date old mid i) one added.1, subst (λ r. In (rule_in new r) rules) one (subst (λ n. In n rules) (sym named) added.2)))
  ]

  pub adds_more : AddsRows (rules ++ more) event date old new
  adds_more = record {
    each = λ i. elim (first.each i) [
      | inl same ↦ elim (then_.each i) [
        | inl again ↦ inl (record { row = again.row ∙ same.row; waits = again.waits ∙ same.waits })
        | inr added ↦ inr (added.0, from_then i added.0 added.1, In-right rules more (rule_in new added.0) added.2)
      ]
      | inr added ↦ (
          let (then_new, named) = from_first i added.0 added.1 in
          inr (added.0, then_new, In-left rules more (rule_in new added.0) (subst (λ n. In n rules) (sym named) added.2)))
    ];
    all = λ rule at. elim (In-cases rules more rule at) [
      | inl there ↦ (let (i, row, is, named) = first.all rule there in let (then_new, same) = from_first i row is in (i, row, then_new, same ∙ named))
      | inr there ↦ (let (i, row, is, named) = then_.all rule there in (i, row, from_then i row is, named))
    ];
    apart = λ i j row other at there same. elim (parted i row at) [
      | inl p ↦ elim (parted j other there) [
        | inl q ↦ first.apart i j row other p.0 q.0 (sym (from_first i row p.0).1 ∙ same ∙ (from_first j other q.0).1)
        | inr q ↦ absurd (distinct (rule_in new row) p.1 (subst (λ n. In n more) (sym same) q.1))
      ]
      | inr p ↦ elim (parted j other there) [
        | inl q ↦ absurd (distinct (rule_in new other) q.1 (subst (λ n. In n more) same p.1))
        | inr q ↦ then_.apart i j row other p.0 q.0 same
      ]
    ];
  }
