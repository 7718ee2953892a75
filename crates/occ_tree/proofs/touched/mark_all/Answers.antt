use Rattle.std.proofs.Common.{◌≡◌, ◌<◌, length, take, sym, subst, arith}
use Rattle.std.proofs.lemmas.List.{take_more, take_all}
use Rattle.occ_tree.specs.Marks.{AreMarked}
use Rattle.occ_tree.proofs.Marking.{marks_stay, marks_again, none_marked, one_marked}
use Rattle.occ_tree.proofs.touched.mark_all.Goals as goal

pub loop-number-init : goal.loop-number-init
loop-number-init c = record { keeps = marks_stay c.args.marks.now.items; marked = none_marked c.args.marks.now.items }

pub loop-number-preserved : goal.loop-number-preserved
loop-number-preserved c =
    let numbers = c.args.numbers.now in
    let i = c.loop-number.number-index in
    let was = c.loop-number.marks.items in
    let now = c.mark.new.marks.items in
    let inv = c.loop-number.invariant in
    let e = c.mark.ensures in
    let within : i < length numbers = omega (arith, c.loop-number-test.true) in
    record {
      keeps = marks_again c.args.marks.now.items was now inv.keeps e.keeps;
      marked = subst (AreMarked now) (sym (take_more numbers i _ within)) (one_marked was now (take i numbers) _ e.keeps e.marked inv.marked);
    }

pub returns-clause-marked : goal.returns-clause-marked
returns-clause-marked c =
    let numbers = c.args.numbers.now in
    let all : take c.loop-number.number-index numbers ≡ numbers = take_all c.loop-number.number-index numbers (omega (arith, c.loop-number-test.false)) in
    subst (AreMarked c.loop-number.marks.items) all c.loop-number.invariant.marked
