use Rattle.std.proofs.Common.{List, Bool, subst}
use Rattle.undo_rows.specs.Changes.{present as table}
use Rattle.occ_tree.specs.Places.{forest}
use Rattle.occ_tree.specs.Standing.{present}
use Rattle.joined.specs.Gaps.{IsReadSpot}
use Rattle.bearing.specs.Touching.{IsTouchedAt}
use Rattle.belief_table.specs.Waiting.{dates_in}
use Rattle.marking.proofs.ByRule.{plain_stay, rule_woken}
use Rattle.bearing.proofs.Touched.{touched_moves}
use Rattle.marking.proofs.Waking.{ok_then}
use Rattle.marking.proofs.rival_points_moved.wake_rule.Goals as goal

pub returns-then-reads_no_rival : goal.returns-then-reads_no_rival
returns-then-reads_no_rival c =
    plain_stay (present c.args.tree.now) (table c.args.rows.now) c.args.moves.now c.args.standing.now.committed c.args.standing.now.present c.args.name c.args.rule (c.reads_no_rival.ensures c.if-reads_no_rival.true) (dates_in c.args.waiting.now)

pub returns : goal.returns
returns c =
    let s = present c.args.tree.now in
    let list = c.args.standing.now.present in
    let name = c.args.name in
    let moves = c.args.moves.now in
    ok_then c.mark_events.result
    (rule_woken s (table c.args.rows.now) moves c.args.standing.now.committed list name c.args.rule c.in_ok-events.events (dates_in c.args.waiting.now) (dates_in c.mark_events.new.waiting)
    (λ x. touched_moves s (IsReadSpot list (forest c.args.tree.now) name) moves.pairs.items c.in_ok-reach.reach c.requires.moves.itself c.in_ok-reach.ensures.all c.in_ok-reach.ensures.bounded c.requires.below x
    c.in_ok-events.events (subst (λ (l : List Bool). IsTouchedAt l c.in_ok-reach.reach c.in_ok-events.events) c.deref.ensures.value c.in_ok-events.ensures)))
    c.mark_events.ensures
