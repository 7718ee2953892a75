use Rattle.std.proofs.Common.{◌+◌, ◌<◌, ◌∙◌, drop, length, subst, arith}
use Rattle.std.proofs.Math.ListN.{drop_of_length-le}
use Rattle.undo_lists.specs.Changes.{present}
use Rattle.occ_tree.specs.Standing.{nodes_in, present_rows}
use Rattle.occ_tree.specs.Tokens.{AreTokensBut, HaveRoomFor}
use Rattle.occ_tree.proofs.Grown.{some_node}
use Rattle.occ_tree.proofs.InTurn.{item_on, drop_at, new_at}
use Rattle.occ_tree.proofs.RoomLeft.{room_first}
use Rattle.occ_tree.proofs.TokenLists.{rows_of}
use Rattle.occ_tree.proofs.tokens.put_all_in.Goals as goal

pub put_in-requires-clause-live : goal.put_in-requires-clause-live
put_in-requires-clause-live c =
    let within : c.loop-x.x-index < length c.args.numbers.now = omega (arith, c.loop-x-test.true) in
    c.requires.live _ (item_on c.args.numbers.now c.loop-x.x-index _ within)

pub put_in-requires-clause-rows : goal.put_in-requires-clause-rows
put_in-requires-clause-rows c = rows_of (nodes_in (present_rows c.args.nodes.now)) (present c.loop-x.tokens) (drop c.loop-x.x-index c.args.numbers.now) c.loop-x.invariant.tokens

pub put_in-requires-clause-room : goal.put_in-requires-clause-room
put_in-requires-clause-room c = λ k has.
    let node = nodes_in (present_rows c.args.nodes.now) in
    let numbers = c.args.numbers.now in
    let i = c.loop-x.x-index in
    let inv = c.loop-x.invariant in
    let within : i < length numbers = omega (arith, c.loop-x-test.true) in
    let (n, at) = some_node node _ (c.requires.live _ (item_on numbers i _ within)) in
    room_first node _ n at c.loop-x.tokens (drop (i + 1) numbers) (let spare = inv.spare in omega (arith, within, spare)) (subst (HaveRoomFor node c.loop-x.tokens) (drop_at numbers i _ within) inv.room) k has

pub loop-x-preserved : goal.loop-x-preserved
loop-x-preserved c =
    let node = nodes_in (present_rows c.args.nodes.now) in
    let numbers = c.args.numbers.now in
    let i = c.loop-x.x-index in
    let inv = c.loop-x.invariant in
    let e = c.put_in.ensures in
    let within : i < length numbers = omega (arith, c.loop-x-test.true) in
    let parts = drop_at numbers i _ within in
    record {
      tokens = e.tokens (drop (i + 1) numbers) (new_at numbers i _ c.requires.once within) (subst (AreTokensBut node (present c.loop-x.tokens)) parts inv.tokens);
      room = e.room (drop (i + 1) numbers) (subst (HaveRoomFor node c.loop-x.tokens) parts inv.room);
      committed = e.committed ∙ inv.committed;
      spare = let a = e.spare in let b = inv.spare in omega (arith, a, b);
    }

pub returns-clause-tokens : goal.returns-clause-tokens
returns-clause-tokens c =
    subst (AreTokensBut (nodes_in (present_rows c.args.nodes.now)) (present c.loop-x.tokens)) (drop_of_length-le c.args.numbers.now (omega (arith, c.loop-x-test.false))) c.loop-x.invariant.tokens
