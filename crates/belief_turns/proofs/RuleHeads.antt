-- Rows of a rule, after it and the classes that it reads have numbers.
use Rattle.std.proofs.Common.{◌≡◌, ◌∙◌, ℕ, ℤ, ◌+◌, List, length, map, Some, sym, ap, subst, inl, inr, arith}
use Rattle.std.proofs.lemmas.List.{length-append}
use Rattle.tmm_model.specs.Beliefs.{class_of}
use Rattle.tmm_model.specs.Moments.{read_by, rule_of}
use Rattle.tmm_model.specs.Standing.{Standing}
use Rattle.undo_rows.specs.declared.row.Row.{Row as TableRow}
use Rattle.undo_rows.specs.Changes.{Logged, present, committed}
use Rattle.decision_rows.specs.declared.row.Pair.{Pair}
use Rattle.occ_tree.specs.Classes.{place_in}
use Rattle.belief_turns.specs.declared.rows.Heads.{Heads}
use Rattle.belief_table.specs.declared.state.Decisions.{Decisions}
use Rattle.belief_table.specs.Decided.{table_of, AreUnder, KeepsLast, IsNewRow, IsSameRow, AddsRows}
use Rattle.belief_turns.specs.Heads.{AreHeads, HasNamesOf, NamesMore}
use Rattle.belief_table.specs.Waiting.{dates_in}
use Rattle.belief_table.proofs.Named.{more_more, under_more}

-- numbers stay those of the rule where names have the numbers that they had
pub heads_stay : (s : Standing) (rule : List ℕ) (old new : Decisions) (heads : Heads) → AreHeads s rule old heads → HasNamesOf old new → AreHeads s rule new heads
heads_stay s rule old new heads are same = record {
  number = subst (λ names. place_in names rule ≡ Some heads.rule) (sym same.rules) are.number;
  numbers = subst (λ names. map (λ fact. place_in names (class_of s fact)) (read_by (rule_of s rule)) ≡ map Some heads.classes.items) (sym same.classes) are.numbers;
  few = are.few;
}

-- ---- more names have numbers, and then rows are added

module _ (old mid : Decisions) (more : NamesMore old mid) where
  row_was : (i : ℕ) → (table_of mid).row i ≡ (table_of old).row i
  row_was i = ap (λ (r : Logged Pair 8). (present r).row i) more.rows

  date_was : (i : ℕ) → dates_in mid.waiting i ≡ dates_in old.waiting i
  date_was i = ap (λ w. dates_in w i) more.waiting

  -- rows are under their classes as before
  pub under_named : (s : Standing) → AreUnder s old → AreUnder s mid
  under_named s under = record {
    classes = λ i row at. (let was = sym (row_was i) ∙ at in under_more s old.rules mid.rules old.classes mid.classes row more.rules more.classes (under.named i row was) (under.classes i row was));
    named = λ i row at.
        let less = under.named i row (sym (row_was i) ∙ at) in
        let (names, is) = more.rules in
        let long : length mid.rules ≡ length old.rules + length names = ap length is ∙ length-append old.rules names in
        omega (arith, less, long);
  }

  pub same_since : (new : Decisions) (i : ℕ) → IsSameRow mid new i → IsSameRow old new i
  same_since new i same = record { row = same.row ∙ row_was i; waits = same.waits ∙ date_was i }

  pub new_since : (new : Decisions) (event : ℕ) (date : ℤ) (i : ℕ) (row : TableRow Pair 8) → IsNewRow event date mid new i row → IsNewRow event date old new i row
  new_since new event date i row at = record { free = sym (row_was i) ∙ at.free; there = at.there; at_event = at.at_event; undecided = at.undecided; waits = at.waits }

  pub new_then : (new : Decisions) (event : ℕ) (date : ℤ) (i : ℕ) (row : TableRow Pair 8) → IsNewRow event date old new i row → IsNewRow event date mid new i row
  new_then new event date i row at = record { free = row_was i ∙ at.free; there = at.there; at_event = at.at_event; undecided = at.undecided; waits = at.waits }

  -- the rows that are added since are those that are added then
  pub rows_since : (rules : List (List ℕ)) (event : ℕ) (date : ℤ) (new : Decisions) → AddsRows rules event date mid new → AddsRows rules event date old new
  rows_since rules event date new adds = record {
    each = λ i. elim (adds.each i) [ inl same ↦ inl (same_since new i same) | inr added ↦ inr (added.0, new_since new event date i added.0 added.1, added.2) ];
    all = λ rule in_rules. (let (i, row, at, named) = adds.all rule in_rules in (i, row, new_since new event date i row at, named));
    apart = λ i j row other at there. adds.apart i j row other (new_then new event date i row at) (new_then new event date j other there);
  }

  pub last_since : (new : Decisions) → KeepsLast mid new → KeepsLast old new
  last_since new last = record {
    rows = last.rows ∙ ap (λ (r : Logged Pair 8). committed r) more.rows;
    rules = more_more old.rules mid.rules new.rules more.rules last.rules;
    classes = more_more old.classes mid.classes new.classes more.classes last.classes;
  }
