use Rattle.std.proofs.Common.{◌≡◌, true, arith}
use Rattle.belief_list.specs.Finding.{mark_under}
use Rattle.belief_list.proofs.Finding.{each_more, places_marked}
use Rattle.belief_list.proofs.differing.marked.Goals as goal

pub loop-x-preserved : goal.loop-x-preserved
loop-x-preserved c =
    each_more (λ y. mark_under c.loop-x.marks.items y ≡ true) (λ y. mark_under c.mark.new.marks.items y ≡ true) c.args.nodes.now c.loop-x.x-index _ c.loop-x-test.true
    c.mark.ensures.stay c.mark.ensures.marked c.loop-x.invariant

pub returns : goal.returns
returns c = places_marked c.loop-x.marks.items c.args.nodes.now (λ j d lt. c.loop-x.invariant j d (omega (arith, lt, c.loop-x-test.false)))
