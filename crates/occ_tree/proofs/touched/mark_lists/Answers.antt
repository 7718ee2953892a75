use Rattle.std.proofs.Common.{◌≡◌, ◌<◌, length, take, sym, subst, arith}
use Rattle.std.proofs.lemmas.List.{take_more, take_all}
use Rattle.occ_tree.specs.Marks.{AreListsMarked}
use Rattle.occ_tree.specs.Standing.{nodes_in, present_rows}
use Rattle.occ_tree.proofs.Marking.{marks_stay, marks_again, no_lists_marked, one_list_marked}
use Rattle.occ_tree.proofs.touched.mark_lists.Goals as goal

pub loop-x-init : goal.loop-x-init
loop-x-init c = record { keeps = marks_stay c.args.marks.now.items; marked = no_lists_marked (nodes_in (present_rows c.args.nodes.now)) c.args.marks.now.items }

pub loop-x-preserved : goal.loop-x-preserved
loop-x-preserved c =
    let node = nodes_in (present_rows c.args.nodes.now) in
    let numbers = c.args.numbers.now in
    let i = c.loop-x.x-index in
    let was = c.loop-x.marks.items in
    let now = c.mark_list.new.marks.items in
    let inv = c.loop-x.invariant in
    let e = c.mark_list.ensures in
    let within : i < length numbers = omega (arith, c.loop-x-test.true) in
    record {
      keeps = marks_again c.args.marks.now.items was now inv.keeps e.keeps;
      marked = subst (AreListsMarked node now) (sym (take_more numbers i _ within)) (one_list_marked node was now (take i numbers) _ e.keeps e.marked inv.marked);
    }

pub returns-clause-marked : goal.returns-clause-marked
returns-clause-marked c =
    let node = nodes_in (present_rows c.args.nodes.now) in
    let numbers = c.args.numbers.now in
    let all : take c.loop-x.x-index numbers ≡ numbers = take_all c.loop-x.x-index numbers (omega (arith, c.loop-x-test.false)) in
    subst (AreListsMarked node c.loop-x.marks.items) all c.loop-x.invariant.marked
