use Rattle.std.proofs.Common.{refl}
use Rattle.belief_table.specs.declared.state.Beliefs.{Beliefs}
use Rattle.belief_net.proofs.Opened.{list_after, dates_before, events_after, under_after, begin_before, tokens_before, classes_noted, points_there, marked_fit, marked_may_add, opened_fit, opened_stands, opened_numbered, opened_last}
use Rattle.belief_net.proofs.opening.open.Goals as goal

pub re_date_moved-requires-clause-list : goal.re_date_moved-requires-clause-list
re_date_moved-requires-clause-list c =
    list_after c.args.standing.now c.args.net.now c.args.edit.now c.args.erased.now c.args.beliefs.now c.erase.new.beliefs c.in_ok-departed.departed c.requires.kept c.requires.pending
    c.in_ok-departed.ensures.sheds c.in_ok-departed.ensures.spares c.in_ok-departed.ensures.free

pub re_date_moved-requires-clause-before : goal.re_date_moved-requires-clause-before
re_date_moved-requires-clause-before c =
    dates_before c.args.standing.now c.args.net.now c.args.edit.now c.args.erased.now c.args.beliefs.now c.erase.new.beliefs c.in_ok-departed.departed c.requires.kept c.requires.pending
    c.in_ok-departed.ensures.sheds c.in_ok-departed.ensures.spares c.in_ok-departed.ensures.free

pub mark_departed-requires-clause-events : goal.mark_departed-requires-clause-events
mark_departed-requires-clause-events c =
    events_after c.args.standing.now c.args.net.now c.args.edit.now c.args.erased.now c.args.beliefs.now c.erase.new.beliefs c.in_ok-departed.departed c.requires.kept c.requires.pending
    c.in_ok-departed.ensures.sheds c.in_ok-departed.ensures.spares c.in_ok-departed.ensures.free
    c.re_date_moved.new.tree c.in_ok-re_date_moved.ensures.keeps

pub mark_departed-requires-clause-under : goal.mark_departed-requires-clause-under
mark_departed-requires-clause-under c =
    under_after c.args.standing.now c.args.net.now c.args.edit.now c.args.erased.now c.args.beliefs.now c.erase.new.beliefs c.in_ok-departed.departed c.requires.kept c.requires.pending
    c.in_ok-departed.ensures.sheds c.in_ok-departed.ensures.spares c.in_ok-departed.ensures.free

pub mark_departed-requires-clause-nodes : goal.mark_departed-requires-clause-nodes
mark_departed-requires-clause-nodes c =
    begin_before c.args.standing.now c.args.net.now c.args.edit.now c.args.erased.now c.args.beliefs.now c.erase.new.beliefs c.in_ok-departed.departed c.requires.kept c.requires.pending
    c.in_ok-departed.ensures.sheds c.in_ok-departed.ensures.spares c.in_ok-departed.ensures.free
    c.re_date_moved.new.tree c.in_ok-re_date_moved.ensures.keeps

pub mark_departed-requires-clause-tokens : goal.mark_departed-requires-clause-tokens
mark_departed-requires-clause-tokens c =
    tokens_before c.args.standing.now c.args.net.now c.args.edit.now c.args.erased.now c.args.beliefs.now c.erase.new.beliefs c.in_ok-departed.departed c.requires.kept c.requires.pending
    c.in_ok-departed.ensures.sheds c.in_ok-departed.ensures.spares c.in_ok-departed.ensures.free

pub mark_departed-requires-clause-classes : goal.mark_departed-requires-clause-classes
mark_departed-requires-clause-classes c =
    classes_noted c.args.standing.now c.args.net.now c.args.edit.now c.args.erased.now c.args.beliefs.now c.erase.new.beliefs c.in_ok-departed.departed c.requires.kept c.requires.pending
    c.in_ok-departed.ensures.sheds c.in_ok-departed.ensures.spares c.in_ok-departed.ensures.free

pub enter_added-requires-clause-fit : goal.enter_added-requires-clause-fit
enter_added-requires-clause-fit c =
    let dated : Beliefs = record { tree = c.re_date_moved.new.tree; decisions = c.erase.new.beliefs.decisions } in
    let marked : Beliefs = record { tree = c.re_date_moved.new.tree; decisions = c.mark_departed.new.decisions } in
    marked_fit c.args.standing.now c.args.net.now c.args.edit.now c.args.erased.now c.args.beliefs.now c.erase.new.beliefs c.in_ok-departed.departed c.requires.kept c.requires.pending
    c.in_ok-departed.ensures.sheds c.in_ok-departed.ensures.spares c.in_ok-departed.ensures.free
    dated marked (record {
      keeps = c.in_ok-re_date_moved.ensures.keeps;
      dated = c.in_ok-re_date_moved.ensures.dated;
      same_rows = refl;
      same_tree = refl;
      marks = c.in_ok-mark_departed.ensures.ok;
      names = c.in_ok-mark_departed.ensures.last;
    })

pub enter_added-requires-clause-may : goal.enter_added-requires-clause-may
enter_added-requires-clause-may c =
    let dated : Beliefs = record { tree = c.re_date_moved.new.tree; decisions = c.erase.new.beliefs.decisions } in
    let marked : Beliefs = record { tree = c.re_date_moved.new.tree; decisions = c.mark_departed.new.decisions } in
    marked_may_add c.args.standing.now c.args.net.now c.args.edit.now c.args.erased.now c.args.beliefs.now c.erase.new.beliefs c.in_ok-departed.departed c.requires.kept c.requires.pending
    c.in_ok-departed.ensures.sheds c.in_ok-departed.ensures.spares c.in_ok-departed.ensures.free
    dated marked (record {
      keeps = c.in_ok-re_date_moved.ensures.keeps;
      dated = c.in_ok-re_date_moved.ensures.dated;
      same_rows = refl;
      same_tree = refl;
      marks = c.in_ok-mark_departed.ensures.ok;
      names = c.in_ok-mark_departed.ensures.last;
    })

pub mark_touched-requires-clause-there : goal.mark_touched-requires-clause-there
mark_touched-requires-clause-there c =
    points_there c.args.standing.now c.args.net.now c.args.edit.now c.args.erased.now c.args.beliefs.now c.erase.new.beliefs c.in_ok-departed.departed c.requires.kept c.requires.pending
    c.in_ok-departed.ensures.sheds c.in_ok-departed.ensures.spares c.in_ok-departed.ensures.free

pub returns-in_err-mark_touched-clause-last : goal.returns-in_err-mark_touched-clause-last
returns-in_err-mark_touched-clause-last c =
    let dated : Beliefs = record { tree = c.re_date_moved.new.tree; decisions = c.erase.new.beliefs.decisions } in
    let marked : Beliefs = record { tree = c.re_date_moved.new.tree; decisions = c.mark_departed.new.decisions } in
    opened_last c.args.beliefs.now c.erase.new.beliefs marked c.enter_added.new.beliefs c.mark_touched.new.beliefs c.in_ok-departed.ensures.last c.in_ok-re_date_moved.ensures.keeps.committed_is
    c.in_ok-mark_departed.ensures.last c.in_ok-enter_added.ensures.last c.in_err-mark_touched.ensures.others

pub returns-clause-fit : goal.returns-clause-fit
returns-clause-fit c =
    let dated : Beliefs = record { tree = c.re_date_moved.new.tree; decisions = c.erase.new.beliefs.decisions } in
    let marked : Beliefs = record { tree = c.re_date_moved.new.tree; decisions = c.mark_departed.new.decisions } in
    opened_fit c.args.standing.now c.args.net.now c.args.edit.now c.args.erased.now c.args.beliefs.now c.erase.new.beliefs c.in_ok-departed.departed c.requires.kept c.requires.pending
    c.in_ok-departed.ensures.sheds c.in_ok-departed.ensures.spares c.in_ok-departed.ensures.free
    dated marked (record {
      keeps = c.in_ok-re_date_moved.ensures.keeps;
      dated = c.in_ok-re_date_moved.ensures.dated;
      same_rows = refl;
      same_tree = refl;
      marks = c.in_ok-mark_departed.ensures.ok;
      names = c.in_ok-mark_departed.ensures.last;
    })
    c.args.before c.enter_added.new.beliefs c.mark_touched.new.beliefs c.requires.before (record {
      entered = c.in_ok-enter_added.ensures.ok;
      touched = c.in_ok-mark_touched.ensures.ok;
      others = c.in_ok-mark_touched.ensures.others;
    })

pub returns-clause-begins : goal.returns-clause-begins
returns-clause-begins c =
    let dated : Beliefs = record { tree = c.re_date_moved.new.tree; decisions = c.erase.new.beliefs.decisions } in
    let marked : Beliefs = record { tree = c.re_date_moved.new.tree; decisions = c.mark_departed.new.decisions } in
    opened_stands c.args.standing.now c.args.net.now c.args.edit.now c.args.erased.now c.args.beliefs.now c.erase.new.beliefs c.in_ok-departed.departed c.requires.kept c.requires.pending
    c.in_ok-departed.ensures.sheds c.in_ok-departed.ensures.spares c.in_ok-departed.ensures.free
    dated marked (record {
      keeps = c.in_ok-re_date_moved.ensures.keeps;
      dated = c.in_ok-re_date_moved.ensures.dated;
      same_rows = refl;
      same_tree = refl;
      marks = c.in_ok-mark_departed.ensures.ok;
      names = c.in_ok-mark_departed.ensures.last;
    })
    c.args.before c.enter_added.new.beliefs c.mark_touched.new.beliefs c.requires.before (record {
      entered = c.in_ok-enter_added.ensures.ok;
      touched = c.in_ok-mark_touched.ensures.ok;
      others = c.in_ok-mark_touched.ensures.others;
    })
    c.of_left.result c.of_left.ensures.entered c.of_left.ensures.left

pub returns-clause-numbered : goal.returns-clause-numbered
returns-clause-numbered c =
    let dated : Beliefs = record { tree = c.re_date_moved.new.tree; decisions = c.erase.new.beliefs.decisions } in
    let marked : Beliefs = record { tree = c.re_date_moved.new.tree; decisions = c.mark_departed.new.decisions } in
    opened_numbered c.args.standing.now c.args.net.now c.args.edit.now c.args.erased.now c.args.beliefs.now c.erase.new.beliefs c.in_ok-departed.departed c.requires.kept c.requires.pending
    c.in_ok-departed.ensures.sheds c.in_ok-departed.ensures.spares c.in_ok-departed.ensures.free
    dated marked (record {
      keeps = c.in_ok-re_date_moved.ensures.keeps;
      dated = c.in_ok-re_date_moved.ensures.dated;
      same_rows = refl;
      same_tree = refl;
      marks = c.in_ok-mark_departed.ensures.ok;
      names = c.in_ok-mark_departed.ensures.last;
    })
    c.args.before c.enter_added.new.beliefs c.mark_touched.new.beliefs c.requires.before (record {
      entered = c.in_ok-enter_added.ensures.ok;
      touched = c.in_ok-mark_touched.ensures.ok;
      others = c.in_ok-mark_touched.ensures.others;
    })
    c.of_left.result c.of_left.ensures.left c.in_ok-departed.ensures.last c.in_ok-enter_added.ensures.last.tree

pub returns-clause-last : goal.returns-clause-last
returns-clause-last c =
    let dated : Beliefs = record { tree = c.re_date_moved.new.tree; decisions = c.erase.new.beliefs.decisions } in
    let marked : Beliefs = record { tree = c.re_date_moved.new.tree; decisions = c.mark_departed.new.decisions } in
    opened_last c.args.beliefs.now c.erase.new.beliefs marked c.enter_added.new.beliefs c.mark_touched.new.beliefs c.in_ok-departed.ensures.last c.in_ok-re_date_moved.ensures.keeps.committed_is
    c.in_ok-mark_departed.ensures.last c.in_ok-enter_added.ensures.last c.in_ok-mark_touched.ensures.others
