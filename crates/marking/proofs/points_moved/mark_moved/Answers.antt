use Rattle.std.proofs.Common.{◌≡◌, ◌∙◌, sym, ap, subst, inr, arith}
use Rattle.std.specs.List.{Contains}
use Rattle.undo_rows.specs.Changes.{present as table}
use Rattle.occ_tree.specs.Places.{forest}
use Rattle.occ_tree.specs.Standing.{present}
use Rattle.belief_table.specs.declared.state.Decisions.{Decisions}
use Rattle.belief_table.specs.Decided.{table_of, rule_in, AreUnder}
use Rattle.belief_table.specs.Marks.{HaveEvents, Wakes}
use Rattle.marking.specs.Woken.{IsRowMoved}
use Rattle.belief_table.specs.Waiting.{dates_in}
use Rattle.marking.specs.Woken.{TellMoves, MovesFrom, KeepsDate, MovesByRule, StaysByRule, IsRowAtRest}
use Rattle.decision_rows.specs.Decisions.{classes_in}
use Rattle.joined.proofs.Listed.{pairs_listed}
use Rattle.marking.proofs.AtRest.{all_rest, all_woken}
use Rattle.bearing.proofs.Reached.{numbers_below}
use Rattle.bearing.proofs.Stood.{start_kept, no_pair_of_one}
use Rattle.marking.proofs.Unread.{keeps_date}
use Rattle.marking.proofs.Waking.{wakes_none, wakes_alike}
use Rattle.bearing.proofs.WatchedPoints.{classed}
use Rattle.marking.proofs.points_moved.mark_moved.Goals as goal
use Rattle.marking.proofs.points_moved.mark_moved.Goals.{In_ok-moves, In_ok-wake_classes}

pub returns-then-none_moved-clause-ok : goal.returns-then-none_moved-clause-ok
returns-then-none_moved-clause-ok c =
    let d = c.args.decisions.now in
    let list = c.args.standing.now.present in
    let f = forest c.args.tree.now in
    wakes_none (present c.args.tree.now) (table_of d) (λ i row. IsRowMoved c.args.net.now c.args.added list f d row) (λ i row. IsRowAtRest c.args.net.now c.args.added c.args.standing.now.committed list f d row) (dates_in d.waiting)
    (λ i row at. inr (all_rest c.args.net.now c.args.added c.args.standing.now.committed list f d row (c.none_moved.ensures c.if-none_moved.true)))

pub returns-then-len-eq0-clause-ok : goal.returns-then-len-eq0-clause-ok
returns-then-len-eq0-clause-ok c =
    let d = c.args.decisions.now in
    let list = c.args.standing.now.present in
    let f = forest c.args.tree.now in
    wakes_none (present c.args.tree.now) (table_of d) (λ i row. IsRowMoved c.args.net.now c.args.added list f d row) (λ i row. IsRowAtRest c.args.net.now c.args.added c.args.standing.now.committed list f d row) (dates_in d.waiting)
    (λ i row at. (let h = c.requires.under.named i row at in absurd (omega (arith, h, c.len.ensures, c.if-len-eq0.true))))

pub moves_of-requires-clause-start : goal.moves_of-requires-clause-start
moves_of-requires-clause-start c = start_kept c.args.net.now.present.names c.args.added c.requires.seen.network.start

-- what is told of what moved
told : (c : In_ok-moves) → TellMoves c.args.net.now c.in_ok-moves.moves
told c = record {
  places = c.in_ok-moves.ensures.moved.places;
  listed = c.in_ok-moves.ensures.listed;
  itself = no_pair_of_one c.args.net.now c.args.added c.in_ok-moves.moves.pairs.items c.in_ok-moves.ensures.moved;
  kept = c.in_ok-moves.ensures.kept;
  fast = c.in_ok-moves.ensures.fast.both;
}

pub touched-requires : goal.touched-requires
touched-requires c = record { list = (c.args.standing.now.present, c.requires.seen) }

pub wake_moved_events-requires-clause-by_event : goal.wake_moved_events-requires-clause-by_event
wake_moved_events-requires-clause-by_event c = λ i x row at. (let u = c.requires.under.classes i row at in (pairs_listed c.args.decisions.now.rows i x row (classes_in u.classes) c.first.ensures.listed at u.heads).0)

pub wake_moved_events-requires-clause-below : goal.wake_moved_events-requires-clause-below
wake_moved_events-requires-clause-below c = numbers_below c.args.standing.now.present c.args.net.now.present (forest c.args.tree.now) c.requires.seen c.invariants.ensures.names

pub wake_moved_events-requires-clause-moves : goal.wake_moved_events-requires-clause-moves
wake_moved_events-requires-clause-moves c = told (goal.at.wake_moved_events-requires-clause-moves c).In_ok-moves

pub wake_moved_events-requires-clause-nodes : goal.wake_moved_events-requires-clause-nodes
wake_moved_events-requires-clause-nodes c = λ x m at is. subst (λ l. Contains l x) (sym c.as_slice.ensures.value) (c.in_ok-touched.ensures.nodes x m at is)

pub wake_classes-requires-clause-below : goal.wake_classes-requires-clause-below
wake_classes-requires-clause-below c = numbers_below c.args.standing.now.present c.args.net.now.present (forest c.args.tree.now) c.requires.seen c.invariants.ensures.names

pub wake_classes-requires-clause-moves : goal.wake_classes-requires-clause-moves
wake_classes-requires-clause-moves c = told (goal.at.wake_classes-requires-clause-moves c).In_ok-moves

pub wake_classes-requires-clause-untouched : goal.wake_classes-requires-clause-untouched
wake_classes-requires-clause-untouched c = λ class off. c.in_ok-touched.ensures.classes class (λ on. off (subst (λ l. Contains l class) (sym c.as_slice-classes.ensures.value) on))

-- all but what waits is as before the rows on the lists of classes are looked at, and after
same_classes : (c : In_ok-wake_classes) → c.wake_classes.new.decisions ≡ record c.args.decisions.now { waiting = c.wake_classes.new.decisions.waiting }
same_classes c = c.in_ok-wake_classes.ensures.others

pub wake_rivalled-requires-clause-sound : goal.wake_rivalled-requires-clause-sound
wake_rivalled-requires-clause-sound c = c.requires.seen.network.sound

pub wake_rivalled-requires-clause-classed : goal.wake_rivalled-requires-clause-classed
wake_rivalled-requires-clause-classed c = classed c.args.standing.now.present c.args.net.now.present (forest c.args.tree.now) c.requires.seen

pub wake_rivalled-requires-clause-below : goal.wake_rivalled-requires-clause-below
wake_rivalled-requires-clause-below c = numbers_below c.args.standing.now.present c.args.net.now.present (forest c.args.tree.now) c.requires.seen c.invariants.ensures.names

pub wake_rivalled-requires-clause-moves : goal.wake_rivalled-requires-clause-moves
wake_rivalled-requires-clause-moves c = told (goal.at.wake_rivalled-requires-clause-moves c).In_ok-moves

pub wake_rivalled-requires-clause-events : goal.wake_rivalled-requires-clause-events
wake_rivalled-requires-clause-events c =
    subst (λ (d : Decisions). HaveEvents c.args.tree.now (table d.rows)) (sym (same_classes (goal.at.wake_rivalled-requires-clause-events c).In_ok-wake_classes)) c.requires.events

pub wake_rivalled-requires-clause-under : goal.wake_rivalled-requires-clause-under
wake_rivalled-requires-clause-under c =
    subst (AreUnder c.args.standing.now.present) (sym (same_classes (goal.at.wake_rivalled-requires-clause-under c).In_ok-wake_classes))
    (record { classes = c.requires.under.classes; named = c.requires.under.named })

pub returns-clause-ok : goal.returns-clause-ok
returns-clause-ok c =
    let list = c.args.standing.now.present in
    let nets = c.args.net.now in
    let s = present c.args.tree.now in
    let f = forest c.args.tree.now in
    let d = c.args.decisions.now in
    let moves = c.in_ok-moves.moves in
    let mid = dates_in c.wake_moved_events.new.waiting in
    let first = wakes_alike s (table_of d) (λ i row. MovesFrom moves f row.value.trigger) (λ i row. MovesFrom moves f row.value.trigger → ⊥) (λ i row. MovesFrom moves f row.value.trigger) (λ i row. KeepsDate moves list f d row)
    (dates_in d.waiting) mid (λ i row at m. m) (λ i row at still. keeps_date moves list f d row still) c.in_ok-awake.ensures.ok in
    let next = c.wake_classes.new.decisions in
    let new = c.wake_rivalled.new.decisions in
    let below = numbers_below list nets.present (forest c.args.tree.now) c.requires.seen c.invariants.ensures.names in
    let classes = c.in_ok-wake_classes.ensures.ok in
    let rules = subst (λ (z : Decisions). Wakes s (table_of z) (λ i row. MovesByRule moves list f (rule_in z row) row.value.trigger) (λ i row. StaysByRule moves c.args.standing.now.committed list f (rule_in z row) row.value.trigger)
    (dates_in next.waiting) (dates_in new.waiting)) (same_classes (goal.at.returns-clause-ok c).In_ok-wake_classes) c.in_ok-wake_rivalled.ensures.ok in
    all_woken nets c.args.added c.args.standing.now.committed list s d moves c.requires.under c.first.ensures.listed below c.in_ok-moves.ensures.moved c.have_own.ensures c.in_ok-moves.ensures.fast
    (dates_in d.waiting) mid (dates_in next.waiting) (dates_in new.waiting) first classes rules

pub returns-clause-others : goal.returns-clause-others
returns-clause-others c =
    c.in_ok-wake_rivalled.ensures.others ∙ ap (λ (z : Decisions). record z { waiting = c.wake_rivalled.new.decisions.waiting }) (same_classes (goal.at.returns-clause-others c).In_ok-wake_classes)
