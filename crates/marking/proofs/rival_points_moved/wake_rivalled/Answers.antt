use Rattle.std.proofs.Common.{◌∙◌, inl, refl, sym, ap, subst, arith}
use Rattle.undo_rows.specs.Changes.{present as table}
use Rattle.occ_tree.specs.Places.{forest}
use Rattle.occ_tree.specs.Standing.{present}
use Rattle.belief_table.specs.declared.state.Decisions.{Decisions}
use Rattle.belief_table.specs.Marks.{HaveEvents}
use Rattle.belief_table.specs.Numbers.{name_in}
use Rattle.belief_table.specs.Waiting.{dates_in}
use Rattle.marking.specs.Woken.{MovesByRule, StaysByRule}
use Rattle.marking.proofs.ByRule.{woken_none, woken_next, woken_all, all_rest}
use Rattle.marking.proofs.rival_points_moved.wake_rivalled.Goals as goal

pub returns-then-says_none-clause-ok : goal.returns-then-says_none-clause-ok
returns-then-says_none-clause-ok c =
    let d = c.args.decisions.now in
    let s = c.args.standing.now.present in
    let old = c.args.standing.now.committed in
    let f = forest c.args.tree.now in
    let moves = c.args.moves.now in
    all_rest s d c.requires.under c.first.ensures.listed (present c.args.tree.now) (λ r row. MovesByRule moves s f r row.value.trigger) (λ r row. StaysByRule moves old s f r row.value.trigger)
    (λ r row. inl (λ f at g. c.says_none.ensures c.if-says_none.true f g)) (dates_in d.waiting)

pub loop-rule-init : goal.loop-rule-init
loop-rule-init c =
    let s = c.args.standing.now.present in
    let old = c.args.standing.now.committed in
    let f = forest c.args.tree.now in
    let moves = c.args.moves.now in
    record {
      wakes = woken_none s c.args.decisions.now c.requires.under c.first.ensures.listed (present c.args.tree.now) (λ r row. MovesByRule moves s f r row.value.trigger) (λ r row. StaysByRule moves old s f r row.value.trigger)
          (dates_in c.args.decisions.now.waiting);
      others = refl;
    }

pub wake_rule-requires-clause-events : goal.wake_rule-requires-clause-events
wake_rule-requires-clause-events c = subst (λ (d : Decisions). HaveEvents c.args.tree.now (table d.rows)) (sym c.loop-rule.invariant.others) c.requires.events

pub loop-rule-preserved : goal.loop-rule-preserved
loop-rule-preserved c =
    let d = c.args.decisions.now in
    let s = c.args.standing.now.present in
    let old = c.args.standing.now.committed in
    let f = forest c.args.tree.now in
    let moves = c.args.moves.now in
    let n = c.loop-rule.rule in
    let others = c.loop-rule.invariant.others in
    record {
      wakes = woken_next s d c.requires.under c.first.ensures.listed (present c.args.tree.now) (λ r row. MovesByRule moves s f r row.value.trigger) (λ r row. StaysByRule moves old s f r row.value.trigger)
          n c.name-name.result c.loop-rule.decisions.rows (dates_in d.waiting) (dates_in c.loop-rule.decisions.waiting) (dates_in c.wake_rule.new.waiting)
          (c.name-name.ensures ∙ ap (λ (z : Decisions). name_in z.rules n) others) (ap (λ (z : Decisions). z.rows) others) c.loop-rule.invariant.wakes c.in_ok-wake_rule.ensures;
      others = ap (λ (z : Decisions). record z { waiting = c.wake_rule.new.waiting }) others;
    }

pub returns-clause-ok : goal.returns-clause-ok
returns-clause-ok c =
    let d = c.args.decisions.now in
    let s = c.args.standing.now.present in
    let old = c.args.standing.now.committed in
    let f = forest c.args.tree.now in
    let moves = c.args.moves.now in
    woken_all s d c.requires.under c.first.ensures.listed (present c.args.tree.now) (λ r row. MovesByRule moves s f r row.value.trigger) (λ r row. StaysByRule moves old s f r row.value.trigger)
    c.loop-rule.rule (dates_in d.waiting) (dates_in c.loop-rule.decisions.waiting)
    (λ i row at. (let h = c.requires.under.named i row at in omega (arith, h, c.loop-rule-test.false, c.len-rule-end.ensures)))
    c.loop-rule.invariant.wakes
