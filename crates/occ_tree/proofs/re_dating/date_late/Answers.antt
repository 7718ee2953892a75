use Rattle.std.proofs.Common.{◌≡◌, ◌∙◌, length, sym, ap, subst, arith}
use Rattle.row_links.specs.Lists.{IsOn, AreOnce}
use Rattle.undo_lists.specs.Changes.{present}
use Rattle.occ_tree.specs.Dated.{base_early}
use Rattle.occ_tree.specs.Edits.{AreDated}
use Rattle.occ_tree.specs.Standing.{nodes_in, present_rows}
use Rattle.occ_tree.specs.Tokens.{AreTokensBut, HaveRoomFor}
use Rattle.occ_tree.proofs.Moved.{live_all}
use Rattle.occ_tree.proofs.RoomLeft.{room_sorted}
use Rattle.occ_tree.proofs.SortedBelow.{on_same, once_same}
use Rattle.occ_tree.proofs.TokenLists.{tokens_sorted}
use Rattle.occ_tree.proofs.re_dating.date_late.Goals as goal

pub date_out-requires-clause-live : goal.date_out-requires-clause-live
date_out-requires-clause-live c = λ y on. c.requires.live y (subst (λ l. IsOn l y) c.as_slice.ensures.value on)

pub date_out-requires-clause-once : goal.date_out-requires-clause-once
date_out-requires-clause-once c = subst AreOnce (sym c.as_slice.ensures.value) c.requires.once

pub date_out-requires-clause-room : goal.date_out-requires-clause-room
date_out-requires-clause-room c = let long : length c.as_slice.result.now ≡ length c.args.late.numbers.items = ap length c.as_slice.ensures.value in let (a, b) = c.requires.room in (omega (arith, long, a), omega (arith, long, b))

pub put_all_in-requires-clause-live : goal.put_all_in-requires-clause-live
put_all_in-requires-clause-live c = λ y on.
    let t = present_rows c.args.nodes.now in
    let numbers = c.args.late.numbers.items in
    let sorted = c.sort_if.new.numbers.items in
    let there = sym (on_same numbers sorted c.sort_if.ensures.same y) ∙ subst (λ l. IsOn l y) c.as_slice-2.ensures.value on in
    live_all t (present_rows c.date_out.new.nodes) (base_early c.args.net.now.present (nodes_in t)) c.as_slice.result.now c.date_out.ensures.dated y (c.requires.live y there)

pub put_all_in-requires-clause-once : goal.put_all_in-requires-clause-once
put_all_in-requires-clause-once c = subst AreOnce (sym c.as_slice-2.ensures.value) (once_same c.args.late.numbers.items c.sort_if.new.numbers.items c.sort_if.ensures.same c.requires.once)

pub put_all_in-requires-clause-tokens : goal.put_all_in-requires-clause-tokens
put_all_in-requires-clause-tokens c =
    let numbers = c.args.late.numbers.items in
    let sorted = c.sort_if.new.numbers.items in
    let node = nodes_in (present_rows c.date_out.new.nodes) in
    let lists = present c.date_out.new.tokens in
    let out = subst (AreTokensBut node lists) c.as_slice.ensures.value c.date_out.ensures.tokens in
    subst (AreTokensBut node lists) (sym c.as_slice-2.ensures.value) (tokens_sorted node lists numbers sorted (on_same numbers sorted c.sort_if.ensures.same) out)

pub put_all_in-requires-clause-room : goal.put_all_in-requires-clause-room
put_all_in-requires-clause-room c =
    let numbers = c.args.late.numbers.items in
    let sorted = c.sort_if.new.numbers.items in
    let node = nodes_in (present_rows c.date_out.new.nodes) in
    let tokens = c.date_out.new.tokens in
    let room = subst (HaveRoomFor node tokens) c.as_slice.ensures.value c.date_out.ensures.room in
    subst (HaveRoomFor node tokens) (sym c.as_slice-2.ensures.value) (room_sorted node tokens numbers sorted c.sort_if.ensures.same room)

pub put_all_in-requires-clause-spare : goal.put_all_in-requires-clause-spare
put_all_in-requires-clause-spare c =
    let first : length c.as_slice.result.now ≡ length c.args.late.numbers.items = ap length c.as_slice.ensures.value in
    let second : length c.as_slice-2.result.now ≡ length c.sort_if.new.numbers.items = ap length c.as_slice-2.ensures.value in
    let long = c.sort_if.ensures.long in
    let spare = c.date_out.ensures.spare in
    omega (arith, first, second, long, spare)

pub returns-clause-dated : goal.returns-clause-dated
returns-clause-dated c =
    let t = present_rows c.args.nodes.now in
    subst (λ l. AreDated t (present_rows c.date_out.new.nodes) l (base_early c.args.net.now.present (nodes_in t))) c.as_slice.ensures.value c.date_out.ensures.dated
