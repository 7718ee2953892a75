use Rattle.undo_lists.specs.Changes.{present}
use Rattle.occ_tree.specs.Dated.{base_early}
use Rattle.occ_tree.specs.Standing.{nodes_in, present_rows}
use Rattle.occ_tree.proofs.Moved.{class_all, tokens_all}
use Rattle.occ_tree.proofs.RoomLeft.{room_kept}
use Rattle.occ_tree.proofs.re_dating.date_out.Goals as goal

pub returns-clause-tokens : goal.returns-clause-tokens
returns-clause-tokens c =
    tokens_all (present_rows c.args.nodes.now) (present_rows c.date_by.new.nodes) (base_early c.args.net.now.present (nodes_in (present_rows c.args.nodes.now))) c.args.numbers.now c.date_by.ensures.dated c.limit.ensures.stands.placed
    (present c.take_all_out.new.tokens) c.take_all_out.ensures.tokens

pub returns-clause-room : goal.returns-clause-room
returns-clause-room c =
    let t = present_rows c.args.nodes.now in
    let u = present_rows c.date_by.new.nodes in
    room_kept (nodes_in t) (nodes_in u) c.take_all_out.new.tokens c.args.numbers.now (class_all t u (base_early c.args.net.now.present (nodes_in t)) c.args.numbers.now c.date_by.ensures.dated) c.take_all_out.ensures.room
