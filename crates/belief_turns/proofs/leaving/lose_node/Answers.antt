use Rattle.std.proofs.Common.{◌∙◌, refl, sym}
use Rattle.std.proofs.lemmas.Result.{on_ok_weaker}
use Rattle.spots.proofs.Nodes.{node_at}
use Rattle.occ_tree.specs.Places.{forest}
use Rattle.occ_tree.specs.Standing.{present}
use Rattle.marking.specs.TokenMarks.{MarksReaders}
use Rattle.belief_turns.specs.Leaving.{LosesNode, a_token, an_event}
use Rattle.belief_table.proofs.Classes.{class_is_at}
use Rattle.marking.proofs.Covering.{dropped_covered}
use Rattle.belief_turns.proofs.Lost.{under_drops}
use Rattle.belief_turns.proofs.leaving.lose_node.Goals as goal

pub mark_readers-requires-clause-token : goal.mark_readers-requires-clause-token
mark_readers-requires-clause-token c =
    let (m, at) = node_at (forest c.args.tree.now) c.args.y c.requires.live in
    (m, at, sym (c.row.ensures m at).class ∙ c.in-Some.is)

pub mark_readers-requires-clause-under : goal.mark_readers-requires-clause-under
mark_readers-requires-clause-under c =
    let (list, under) = c.requires.under in
    (list, under_drops list c.args.y c.args.decisions.now c.drop_rows.new.decisions c.in_ok-drop_rows.ensures.drops under)

pub mark_readers-requires-clause-covered : goal.mark_readers-requires-clause-covered
mark_readers-requires-clause-covered c =
    dropped_covered c.args.standing.now.present (present c.args.tree.now) c.args.decisions.now c.drop_rows.new.decisions c.args.marks.now c.args.y c.in_ok-drop_rows.ensures.drops c.requires.covered

pub returns-in-None-clause-covered : goal.returns-in-None-clause-covered
returns-in-None-clause-covered c =
    dropped_covered c.args.standing.now.present (present c.args.tree.now) c.args.decisions.now c.drop_rows.new.decisions c.args.marks.now c.args.y c.in_ok-drop_rows.ensures.drops c.requires.covered

pub returns-in-Some-clause-ok : goal.returns-in-Some-clause-ok
returns-in-Some-clause-ok c =
    let list = c.args.standing.now.present in
    let net = c.args.net.now.present in
    let tree = c.args.tree.now in
    let going = c.args.going.now in
    let y = c.args.y in
    let mid = c.drop_rows.new.decisions in
    let new = c.mark_readers.new.decisions in
    let (m, at) = node_at (forest tree) y c.requires.live in
    let row = c.row.ensures m at in
    on_ok_weaker {P = MarksReaders list net tree going y c.in-Some.class mid new} {Q = LosesNode list net tree going y c.args.decisions.now new} c.mark_readers.result
    (λ marks. record {
      mid = mid;
      drops = c.in_ok-drop_rows.ensures.drops;
      listed = c.in_ok-drop_rows.ensures.listed;
      marks = a_token c.in-Some.class (class_is_at tree y m at ∙ sym row.class ∙ c.in-Some.is) marks;
    })
    c.mark_readers.ensures.ok

pub returns-in-None-clause-ok : goal.returns-in-None-clause-ok
returns-in-None-clause-ok c =
    let tree = c.args.tree.now in
    let (m, at) = node_at (forest tree) c.args.y c.requires.live in
    let row = c.row.ensures m at in
    record {
      mid = c.drop_rows.new.decisions;
      drops = c.in_ok-drop_rows.ensures.drops;
      listed = c.in_ok-drop_rows.ensures.listed;
      marks = an_event (class_is_at tree c.args.y m at ∙ sym row.class ∙ c.in-None.is) refl;
    }
