use Rattle.std.proofs.Common.{◌≡◌, ◌∙◌, true, sym, ap, subst, rules, w64, to_z, of_z}
use Rattle.std.specs.Prelude.{◌+ℤ◌, FitsSigned}
use Rattle.std.proofs.lemmas.Int.{to_z-of_z}
use Rattle.tmm_model.specs.Moments.{rule_of}
use Rattle.undo_rows.specs.declared.row.Row.{Row as TableRow}
use Rattle.undo_rows.specs.Changes.{present as table}
use Rattle.decision_rows.specs.declared.row.Pair.{Pair}
use Rattle.occ_tree.specs.Standing.{present, early}
use Rattle.bearing.specs.declared.events.Events.TheVariants.{DueBetween}
use Rattle.belief_table.specs.declared.state.Decisions.{Decisions}
use Rattle.bearing.specs.Events.{is_between}
use Rattle.belief_table.specs.ByEvent.{IsOfRuleAt}
use Rattle.belief_table.specs.Decided.{rule_in}
use Rattle.marking.specs.Horizons.{IsDueBetween}
use Rattle.belief_table.specs.Marks.{Marks}
use Rattle.belief_table.specs.Numbers.{name_in}
use Rattle.belief_table.specs.Waiting.{dates_in}
use Rattle.belief_table.proofs.OfRules.{rules_next}
use Rattle.marking.proofs.horizon_moved.mark_horizon.Goals as goal

pub loop-rule-preserved : goal.loop-rule-preserved
loop-rule-preserved c =
    let s = present c.args.tree.now in
    let list = c.args.standing.now.present in
    let d = c.args.decisions.now in
    let n = c.loop-rule.rule in
    let before = c.args.before in
    let after = c.horizon-after.result in
    let delay = to_z w64 (of_z w64 c.least_delay-delay.result) in
    let fits : FitsSigned w64 c.least_delay-delay.result = search rules in
    let rows_same = ap (λ (z : Decisions). z.rows) c.loop-rule.invariant.others in
    let named : (row : TableRow Pair 8) → row.value.rule ≡ n → delay ≡ (rule_of list (rule_in d row)).lo =
    λ row is. to_z-of_z w64 c.least_delay-delay.result fits ∙ c.least_delay-delay.ensures ∙ ap (λ name. (rule_of list name).lo) (c.name.ensures ∙ ap (λ (z : Decisions). name_in z.rules n) c.loop-rule.invariant.others ∙ ap (name_in d.rules) (sym is)) in
    record {
      marks = rules_next list d c.requires.under c.first.ensures.listed s (IsDueBetween list s d before after) n (DueBetween delay before after) (dates_in d.waiting) (dates_in c.loop-rule.decisions.waiting) (dates_in c.mark_events.new.waiting)
          (λ i row at is. (
            (λ h. subst (λ z. is_between (early s row.value.trigger +ℤ z) before after ≡ true) (named row is) h),
            λ h. subst (λ z. is_between (early s row.value.trigger +ℤ z) before after ≡ true) (sym (named row is)) h,
          ))
          c.loop-rule.invariant.marks
          (subst (λ r. Marks s (table r) (IsOfRuleAt (table r) n (DueBetween delay before after) s) (dates_in c.loop-rule.decisions.waiting) (dates_in c.mark_events.new.waiting)) rows_same c.in_ok-mark_events.ensures);
      others = ap (λ (z : Decisions). record z { waiting = c.mark_events.new.waiting }) c.loop-rule.invariant.others;
    }
