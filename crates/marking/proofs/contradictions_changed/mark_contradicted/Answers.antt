use Rattle.std.proofs.Common.{◌≡◌, ◌∙◌, length, refl, sym, ap, subst, arith, eqb-true}
use Rattle.undo_rows.specs.Changes.{present as table}
use Rattle.occ_tree.specs.Standing.{present}
use Rattle.belief_table.specs.declared.state.Decisions.{Decisions}
use Rattle.marking.specs.Contradicted.{ReadsUnlike, IsAlikeRow}
use Rattle.belief_table.specs.Marks.{HaveEvents}
use Rattle.belief_table.specs.Numbers.{name_in}
use Rattle.belief_table.specs.Waiting.{dates_in}
use Rattle.marking.proofs.ByRule.{woken_none, woken_next, woken_all, all_rest}
use Rattle.marking.proofs.Unlike.{none_unlike}
use Rattle.marking.proofs.contradictions_changed.mark_contradicted.Goals as goal

pub returns-then-is_empty-clause-ok : goal.returns-then-is_empty-clause-ok
returns-then-is_empty-clause-ok c =
    let d = c.args.decisions.now in
    let s = c.args.standing.now.present in
    let old = c.args.standing.now.committed in
    let st = present c.args.tree.now in
    let none : length c.in_ok-changed.changed.items ≡ 0 = omega (arith, c.in_ok-changed.changed.ok.0, eqb-true _ 0 (sym c.is_empty.ensures ∙ c.if-is_empty.true)) in
    all_rest s d c.requires.under c.first.ensures.listed st (λ r row. ReadsUnlike old s r) (λ r row. IsAlikeRow old s st r row)
    (λ r row late. none_unlike old s c.in_ok-changed.changed.items none c.in_ok-changed.ensures r) (dates_in d.waiting)

pub loop-rule-init : goal.loop-rule-init
loop-rule-init c =
    let s = c.args.standing.now.present in
    let old = c.args.standing.now.committed in
    let st = present c.args.tree.now in
    record {
      wakes = woken_none s c.args.decisions.now c.requires.under c.first.ensures.listed st (λ r row. ReadsUnlike old s r) (λ r row. IsAlikeRow old s st r row) (dates_in c.args.decisions.now.waiting);
      others = refl;
    }

pub mark_unlike-requires-clause-events : goal.mark_unlike-requires-clause-events
mark_unlike-requires-clause-events c = subst (λ (d : Decisions). HaveEvents c.args.tree.now (table d.rows)) (sym c.loop-rule.invariant.others) c.requires.events

pub loop-rule-preserved : goal.loop-rule-preserved
loop-rule-preserved c =
    let d = c.args.decisions.now in
    let s = c.args.standing.now.present in
    let old = c.args.standing.now.committed in
    let st = present c.args.tree.now in
    let n = c.loop-rule.rule in
    let others = c.loop-rule.invariant.others in
    record {
      wakes = woken_next s d c.requires.under c.first.ensures.listed st (λ r row. ReadsUnlike old s r) (λ r row. IsAlikeRow old s st r row) n c.name-name.result c.loop-rule.decisions.rows
          (dates_in d.waiting) (dates_in c.loop-rule.decisions.waiting) (dates_in c.mark_unlike.new.waiting)
          (c.name-name.ensures ∙ ap (λ (z : Decisions). name_in z.rules n) others) (ap (λ (z : Decisions). z.rows) others) c.loop-rule.invariant.wakes c.in_ok-mark_unlike.ensures;
      others = ap (λ (z : Decisions). record z { waiting = c.mark_unlike.new.waiting }) others;
    }

pub returns-clause-ok : goal.returns-clause-ok
returns-clause-ok c =
    let d = c.args.decisions.now in
    let s = c.args.standing.now.present in
    let old = c.args.standing.now.committed in
    let st = present c.args.tree.now in
    woken_all s d c.requires.under c.first.ensures.listed st (λ r row. ReadsUnlike old s r) (λ r row. IsAlikeRow old s st r row) c.loop-rule.rule (dates_in d.waiting) (dates_in c.loop-rule.decisions.waiting)
    (λ i row at. (let h = c.requires.under.named i row at in omega (arith, h, c.loop-rule-test.false, c.len-rule-end.ensures)))
    c.loop-rule.invariant.wakes
