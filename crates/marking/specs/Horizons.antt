-- Another horizon: which rows wait.
use Rattle.std.specs.Prelude.{◌≡◌, ℕ, ◌+ℤ◌, true}
use Rattle.tmm_model.specs.Moments.{rule_of}
use Rattle.tmm_model.specs.Standing.{Standing}
use Rattle.undo_rows.specs.declared.row.Row.{Row as TableRow}
use Rattle.decision_rows.specs.declared.row.Pair.{Pair}
use Rattle.occ_tree.specs.Standing.{State, early}
use Rattle.belief_table.specs.declared.state.Decisions.{Decisions}
use Rattle.bearing.specs.Events.{is_between}
use Rattle.belief_table.specs.Decided.{rule_in}

-- the effect of the row's rule at its event is due up to one of the horizons, and after the other
abbrev pub IsDueBetween : Standing → State → Decisions → ℕ → ℕ → TableRow Pair 8 → Type 0
IsDueBetween s tree d before after row =
    is_between (early tree row.value.trigger +ℤ (rule_of s (rule_in d row)).lo) before after ≡ true
