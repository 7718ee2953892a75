use Rattle.std.proofs.Common.{Some, refl, subst, w64, rules}
use Rattle.std.specs.Prelude.{FitsSigned}
use Rattle.std.proofs.lemmas.Int.{to_z-of_z}
use Rattle.tmm_model.specs.Moments.{read_by, rule_of}
use Rattle.undo_rows.specs.Edits.{Adds}
use Rattle.decision_rows.specs.Decisions.{classes_in, new_row}
use Rattle.occ_tree.proofs.Numbered.{no_more}
use Rattle.belief_table.specs.declared.state.Decisions.{Decisions}
use Rattle.belief_table.specs.Decided.{KeepsLast}
use Rattle.belief_table.specs.Waiting.{dates_in, Puts}
use Rattle.belief_turns.proofs.Entered.{row_adds, row_under}
use Rattle.belief_turns.proofs.rows.add_under.Goals as goal

pub returns-clause-adds : goal.returns-clause-adds
returns-clause-adds c s rule under are =
    let fits : FitsSigned w64 c.args.date = search rules in
    let old = c.args.decisions.now in
    let heads = c.args.heads.now in
    let new : Decisions = record old { rows = c.add.new.self; waiting = c.push.new.self } in
    let last : KeepsLast old new = record { rows = c.in_ok-row.ensures.ok.committed_is; rules = no_more old.rules; classes = no_more old.classes } in
    let adds = subst (λ l. Adds old.rows new.rows c.in_ok-row.row (new_row c.args.event heads.rule (classes_in l))) c.as_slice.ensures.value c.in_ok-row.ensures.ok in
    let puts = subst (λ z. Puts (dates_in old.waiting) (dates_in new.waiting) c.in_ok-row.row (Some z)) (to_z-of_z w64 c.args.date fits) c.in_ok-push.ensures.ok in (
      row_adds s c.args.event heads.rule c.in_ok-row.row c.args.date rule (read_by (rule_of s rule)) heads.classes.items old new under last are.number refl are.few are.numbers adds puts,
      row_under s c.args.event heads.rule c.in_ok-row.row c.args.date rule (read_by (rule_of s rule)) heads.classes.items old new under last are.number refl are.few are.numbers adds puts,
    )
