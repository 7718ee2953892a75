use Rattle.std.proofs.Common.{sym, subst, ◌∷◌, ◌<◌, length}
use Rattle.undo_lists.specs.Changes.{present}
use Rattle.occ_tree.specs.Standing.{nodes_in, present_rows}
use Rattle.occ_tree.specs.Tokens.{AreRowsOf, AreTokensBut, IsPlaceFor, numbers_in}
use Rattle.occ_tree.specs.Words.{node_cmp}
use Rattle.occ_tree.proofs.RoomLeft.{room_taken}
use Rattle.occ_tree.proofs.TokenLists.{rows_of, some_row}
use Rattle.occ_tree.proofs.TokensOut.{out_within, out_taken}
use Rattle.occ_tree.proofs.tokens.take_out.Goals as goal

pub place_of-place-requires-clause-rows : goal.place_of-place-requires-clause-rows
place_of-place-requires-clause-rows c =
    let node = nodes_in (present_rows c.args.nodes.now) in
    let (out, free, t) = c.requires.tokens in
    subst (AreRowsOf node) (sym c.list.ensures) (rows_of node (present c.args.tokens.now) out t c.in-Some.list)

pub place_of-place-requires-clause-some : goal.place_of-place-requires-clause-some
place_of-place-requires-clause-some c =
    let (out, free, t) = c.requires.tokens in
    let on = (t.each c.args.x c.in-Some.list).1 ((c.get-node.result.now, c.get-node.ensures.node, c.in-Some.is), free) in
    subst (λ l. 0 < length l) (sym c.list.ensures) (some_row (present c.args.tokens.now c.in-Some.list) c.args.x on)

pub remove-requires-clause-place : goal.remove-requires-clause-place
remove-requires-clause-place c =
    let node = nodes_in (present_rows c.args.nodes.now) in
    let place = subst (λ rows. IsPlaceFor (node_cmp node) (numbers_in rows) c.args.x c.place_of-place.result) c.list.ensures c.place_of-place.ensures in
    let (out, free, t) = c.requires.tokens in
    out_within node (present c.args.tokens.now) out c.args.x c.get-node.result.now c.get-node.ensures.node free t c.in-Some.list c.in-Some.is c.place_of-place.result place

pub returns-in-Some-clause-tokens : goal.returns-in-Some-clause-tokens
returns-in-Some-clause-tokens c = λ out free t.
    let node = nodes_in (present_rows c.args.nodes.now) in
    let place = subst (λ rows. IsPlaceFor (node_cmp node) (numbers_in rows) c.args.x c.place_of-place.result) c.list.ensures c.place_of-place.ensures in
    subst (λ new. AreTokensBut node new (c.args.x ∷ out)) (sym c.remove.ensures.present)
    (out_taken node (present c.args.tokens.now) out c.args.x c.get-node.result.now c.get-node.ensures.node free t c.in-Some.list c.in-Some.is c.place_of-place.result place)

pub returns-in-Some-clause-room : goal.returns-in-Some-clause-room
returns-in-Some-clause-room c = λ out room.
    let node = nodes_in (present_rows c.args.nodes.now) in
    let r = c.remove.ensures in
    let (all, free, t) = c.requires.tokens in
    let place = subst (λ rows. IsPlaceFor (node_cmp node) (numbers_in rows) c.args.x c.place_of-place.result) c.list.ensures c.place_of-place.ensures in
    room_taken node c.args.x c.get-node.result.now c.get-node.ensures.node c.args.tokens.now c.remove.new.self c.in-Some.list c.place_of-place.result out c.in-Some.is r.rooms r.present
    (out_within node (present c.args.tokens.now) all c.args.x c.get-node.result.now c.get-node.ensures.node free t c.in-Some.list c.in-Some.is c.place_of-place.result place) r.left room
