use Rattle.std.proofs.Common.{◌≡◌, ◌∙◌, ap, sym, subst, arith}
use Rattle.undo_lists.specs.Changes.{present}
use Rattle.undo_lists.specs.Rooms.{with_item}
use Rattle.occ_tree.specs.Standing.{nodes_in, present_rows}
use Rattle.occ_tree.specs.Tokens.{row_in, AreTokensBut, IsPlaceFor, numbers_in}
use Rattle.occ_tree.specs.Words.{node_cmp}
use Rattle.occ_tree.proofs.RoomLeft.{room_put}
use Rattle.occ_tree.proofs.TokenLists.{length-numbers, tokens_put}
use Rattle.occ_tree.proofs.tokens.put_in.Goals as goal

pub returns-in-Some-clause-tokens : goal.returns-in-Some-clause-tokens
returns-in-Some-clause-tokens c = λ out free t.
    let node = nodes_in (present_rows c.args.nodes.now) in
    let lists = present c.args.tokens.now in
    let x = c.args.x in
    let k = c.in-Some.list in
    let place = subst (λ rows. IsPlaceFor (node_cmp node) (numbers_in rows) x c.place_for-place.result) c.list.ensures c.place_for-place.ensures in
    let item : c.token_of.result ≡ row_in node x = c.token_of.ensures node c.get-node.ensures.node in
    subst (λ new. AreTokensBut node new out) (sym (c.insert.ensures.present ∙ ap (with_item lists k c.place_for-place.result) item))
    (tokens_put node lists out x c.get-node.result.now c.get-node.ensures.node c.get-node.ensures.stands.placed k c.in-Some.is free t c.place_for-place.result place)

pub returns-in-Some-clause-room : goal.returns-in-Some-clause-room
returns-in-Some-clause-room c = λ out room.
    let node = nodes_in (present_rows c.args.nodes.now) in
    let i = c.insert.ensures in
    let lists = present c.args.tokens.now in
    let place = subst (λ rows. IsPlaceFor (node_cmp node) (numbers_in rows) c.args.x c.place_for-place.result) c.list.ensures c.place_for-place.ensures in
    let long = length-numbers (lists c.in-Some.list) in
    let within = place.within in
    room_put node c.args.x c.get-node.result.now c.get-node.ensures.node c.args.tokens.now c.insert.new.self c.in-Some.list c.place_for-place.result out c.in-Some.is i.rooms _ i.present (omega (arith, long, within)) room
