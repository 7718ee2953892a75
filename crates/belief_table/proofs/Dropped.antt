-- Rows that go, one after the other.
use Rattle.std.proofs.Common.{◌≡◌, ◌∙◌, ℕ, ◌⊎◌, cond, eqb, List, [], ◌∷◌, false, true, Some, None, sym, ap, inl, inr}
use Rattle.std.specs.Prelude.{◌↔◌}
use Rattle.std.proofs.lemmas.Bool.Decides.{eqb_tells}
use Rattle.undo_rows.specs.declared.row.Row.{Row as TableRow}
use Rattle.tmm_model.specs.Standing.{Standing}
use Rattle.row_links.specs.Lists.{IsOn, first_or}
use Rattle.undo_rows.specs.Edits.{Removes}
use Rattle.undo_rows.specs.Tables.{Table, AreListed}
use Rattle.decision_rows.specs.Decisions.{classes_in}
use Rattle.decision_rows.specs.declared.row.Pair.{Pair}
use Rattle.occ_tree.proofs.Walked.{first_is_on}
use Rattle.joined.proofs.Listed.{pairs_listed}
use Rattle.belief_table.specs.declared.state.Decisions.{Decisions}
use Rattle.belief_table.specs.Decided.{table_of, AreUnder, IsSameRow, IsDropped, DropsRows}
use Rattle.belief_table.specs.Waiting.{dates_in, Puts}

-- so far rows at the event are gone, and all else stays
pub record Dropping (event : ℕ) (old new : Decisions) : Type 0 where
  pub rules : new.rules ≡ old.rules
  pub classes : new.classes ≡ old.classes
  pub each : (i : ℕ) → IsSameRow old new i ⊎ IsDropped event old new i

pub dropping_next : (event : ℕ) (old mid new : Decisions) (x : ℕ) (row : TableRow Pair 8) → Dropping event old mid
    → (table_of mid).row x ≡ Some row → row.value.trigger ≡ event
    → Removes mid.rows new.rows x → Puts (dates_in mid.waiting) (dates_in new.waiting) x None → new.rules ≡ mid.rules → new.classes ≡ mid.classes → Dropping event old new
dropping_next event old mid new x row d at here removes puts rules classes = record { rules = rules ∙ d.rules; classes = classes ∙ d.classes; each = each }
  where
    then_is : (i : ℕ) → (table_of new).row i ≡ cond (eqb i x) None ((table_of mid).row i)
    then_is i = ap (λ (t : Table Pair 8). t.row i) removes.present_is

    each : (i : ℕ) → IsSameRow old new i ⊎ IsDropped event old new i
    each i = elim (eqb_tells i x) [
      | inl same ↦ elim (d.each i) [
        | inl stays ↦ inr (record {
          row = row;
          was = sym stays.row ∙ ap (table_of mid).row same.1 ∙ at;
          at_event = here;
          gone = then_is i ∙ ap (λ b. cond b None ((table_of mid).row i)) same.0;
          rests = ap (dates_in new.waiting) same.1 ∙ puts.at;
        })
        | inr dropped ↦ absurd (let both : None ≡ Some row = sym dropped.gone ∙ ap (table_of mid).row same.1 ∙ at in cc)
      ]
      | inr apart ↦ (
          let row_same = then_is i ∙ ap (λ b. cond b None ((table_of mid).row i)) apart.0 in
          let waits_same = puts.others i apart.1 in
          elim (d.each i) [
            | inl stays ↦ inl (record { row = row_same ∙ stays.row; waits = waits_same ∙ stays.waits })
            | inr dropped ↦ inr (record { row = dropped.row; was = dropped.was; at_event = dropped.at_event; gone = row_same ∙ dropped.gone; rests = waits_same ∙ dropped.rests })
          ])
    ]

-- ---- the list of the event

module _ (s : Standing) (event : ℕ) (old mid : Decisions) (under : AreUnder s old) (d : Dropping event old mid) (listed : AreListed (table_of mid)) where
  -- a row that is there was there
  was : (i : ℕ) (row : TableRow Pair 8) → (table_of mid).row i ≡ Some row → (table_of old).row i ≡ Some row
  was i row at = elim (d.each i) [
    | inl same ↦ sym same.row ∙ at
    | inr dropped ↦ absurd (let both : None ≡ Some row = sym dropped.gone ∙ at in cc)
  ]

  on_own : (i : ℕ) (row : TableRow Pair 8) → (table_of mid).row i ≡ Some row → IsOn ((table_of mid).list 0 event) i ↔ (row.value.trigger ≡ event)
  on_own i row at = let u = under.classes i row (was i row at) in (pairs_listed mid.rows i event row (classes_in u.classes) listed at u.heads).0

  pub first_at : (i : ℕ) (row : TableRow Pair 8) → (table_of mid).row i ≡ Some row → first_or None ((table_of mid).list 0 event) ≡ Some i → row.value.trigger ≡ event
  first_at i row at first = (on_own i row at).0 (first_is_on ((table_of mid).list 0 event) i first)

  pub all_dropped : first_or None ((table_of mid).list 0 event) ≡ None → DropsRows event old mid
  all_dropped none = record {
    rules = d.rules;
    classes = d.classes;
    each = d.each;
    none = λ i row at here. nothing ((table_of mid).list 0 event) none i ((on_own i row at).1 here);
  }
    where
      nothing : (l : List ℕ) → first_or None l ≡ None → (i : ℕ) → IsOn l i → ⊥
      nothing [] none i on = (let no : false ≡ true = on in cc)
      nothing (x ∷ l) none i on = (let no : Some x ≡ None = none in cc)
