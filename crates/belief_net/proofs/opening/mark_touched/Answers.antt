use Rattle.std.proofs.Common.{◌≡◌, ◌∙◌, ◌⊎◌, ℕ, Bool, true, false, OnOk, List, Option, Some, refl, sym, ap, subst, inl, inr}
use Rattle.tmm_model.specs.declared.premise.Edit.{Edit}
use Rattle.std.specs.Prelude.{◌+ℤ◌}
use Rattle.tmm_model.specs.Moments.{rule_of}
use Rattle.tmm_model.specs.Standing.{Standing}
use Rattle.undo_rows.specs.declared.row.Row.{Row as TableRow}
use Rattle.decision_rows.specs.declared.row.Pair.{Pair}
use Rattle.occ_tree.specs.Standing.{State, present, early}
use Rattle.belief_table.specs.declared.state.Decisions.{Decisions}
use Rattle.bearing.specs.Events.{is_between}
use Rattle.belief_table.specs.Decided.{table_of, rule_in}
use Rattle.marking.specs.Horizons.{IsDueBetween}
use Rattle.belief_table.specs.Marks.{Wakes}
use Rattle.belief_net.specs.Updating.{IsChanged, IsUnchanged, IsTouchedBy, IsLeftBy}
use Rattle.belief_table.specs.Waiting.{dates_in}
use Rattle.marking.proofs.Waking.{marks_wake}
use Rattle.belief_net.proofs.opening.mark_touched.Goals.{in-Add, in-Erase, in-Upgrade}
use Rattle.belief_net.proofs.opening.mark_touched.Goals as goal

-- an effect is due between two horizons, or it is not
between_or : (s : Standing) (t : State) (d : Decisions) (before after : ℕ) (row : TableRow Pair 8) → IsDueBetween s t d before after row ⊎ (IsDueBetween s t d before after row → ⊥)
between_or s t d before after row = by (is_between (early t row.value.trigger +ℤ (rule_of s (rule_in d row)).lo) before after)
  where
    by : (v : Bool) → (v ≡ true) ⊎ (v ≡ true → ⊥)
    by true = inl refl
    by false = inr (λ is. cc)

pub returns-clause-ok : goal.returns-clause-ok
returns-clause-ok c =
    let s = c.args.standing.now.present in
    let old = c.args.standing.now.committed in
    let nets = c.args.net.now in
    let b = c.args.beliefs.now in
    let dates = c.mark_changed.new.beliefs.decisions.waiting in
    let by_edit = λ (k : Edit). OnOk c.mark_changed.result
    (Wakes (present b.tree) (table_of b.decisions) (λ i row. IsTouchedBy k old s nets c.args.before b row) (λ i row. IsLeftBy k old s nets c.args.before b row) (dates_in b.decisions.waiting) (dates_in dates)) in
    let by_name = λ (a : Option (List ℕ)). OnOk c.mark_changed.result
    (Wakes (present b.tree) (table_of b.decisions) (λ i row. IsChanged a old s nets b row) (λ i row. IsUnchanged a old s nets b row) (dates_in b.decisions.waiting) (dates_in dates)) in
    elim c.match-edit.branch [
      | in-Add w ↦ subst by_edit (sym w.in-Add.is) (subst by_name (w.added-is ∙ ap Some w.name.ensures) c.mark_changed.ensures.ok)
      | in-Erase w ↦ subst by_edit (sym w.in-Erase.is) (subst by_name w.added-is c.mark_changed.ensures.ok)
      | in-Upgrade w ↦ subst by_edit (sym w.in-Upgrade.is) (subst by_name w.added-is c.mark_changed.ensures.ok)
    ]

pub returns-in-Horizon-clause-ok : goal.returns-in-Horizon-clause-ok
returns-in-Horizon-clause-ok c =
    let s = c.args.standing.now.present in
    let old = c.args.standing.now.committed in
    let nets = c.args.net.now in
    let b = c.args.beliefs.now in
    let new = c.mark_horizon.new.decisions.waiting in
    subst (λ (k : Edit). Wakes (present b.tree) (table_of b.decisions) (λ i row. IsTouchedBy k old s nets c.args.before b row) (λ i row. IsLeftBy k old s nets c.args.before b row) (dates_in b.decisions.waiting) (dates_in new))
    (sym c.in-Horizon.is)
    (marks_wake (present b.tree) (table_of b.decisions) (λ i row. IsDueBetween s (present b.tree) b.decisions c.args.before s.horizon row) (λ i row. IsDueBetween s (present b.tree) b.decisions c.args.before s.horizon row → ⊥)
    (dates_in b.decisions.waiting) (dates_in new)
    (λ i row at. between_or s (present b.tree) b.decisions c.args.before s.horizon row)
    c.in_ok-mark_horizon-in-Horizon.ensures.ok)
