-- Rows that are let wait stay under their classes.
use Rattle.std.proofs.Common.{◌≡◌, ◌∙◌, ◌<◌, length, sym, ap, subst}
use Rattle.tmm_model.specs.Standing.{Standing}
use Rattle.belief_table.specs.declared.state.Decisions.{Decisions}
use Rattle.belief_table.specs.Decided.{table_of, AreUnder, KeepsLast}
use Rattle.belief_table.proofs.Named.{under_more}

-- rows stay under their classes where some are marked
pub marks_under : (s : Standing) (old new : Decisions) → new.rows ≡ old.rows → new.rules ≡ old.rules → KeepsLast old new → AreUnder s old → AreUnder s new
marks_under s old new rows_stay rules_stay last under = record {
  classes = λ i row at.
      let was = ap (λ rows. (table_of (record old { rows = rows })).row i) (sym rows_stay) ∙ at in
      under_more s old.rules new.rules old.classes new.classes row last.rules last.classes (under.named i row was) (under.classes i row was);
  named = λ i row at.
      let was = ap (λ rows. (table_of (record old { rows = rows })).row i) (sym rows_stay) ∙ at in
      subst (λ l. row.value.rule < length l) (sym rules_stay) (under.named i row was);
}
