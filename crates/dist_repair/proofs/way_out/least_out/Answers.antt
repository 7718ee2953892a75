use Rattle.std.proofs.Common.{◌+◌, ℕ, get_or, sym, subst, arith}
use Rattle.std.proofs.lemmas.List.{get_or_default}
use Rattle.dist_repair.proofs.Left.{IsNet}
use Rattle.dist_repair.proofs.Ways.{IsLeastOut, IsLeastOut-more, IsFar-least_out}
use Rattle.dist_repair.proofs.way_out.least_out.Goals as goal

pub loop-k-preserved : goal.loop-k-preserved
loop-k-preserved c =
    let known : IsNet c.args.net.now.present = record { places = c.invariants.ensures.names; used = c.invariants.ensures.in_use; light = c.invariants.ensures.light; dates = c.invariants.ensures.dates } in
    let j : ℕ = get_or c.args.list.now c.loop-k.k 0 in
    subst (IsLeastOut c.args.net.now.present c.args.place c.args.from c.args.list.now c.args.b (c.loop-k.k + 1)) (sym c.lesser-least.ensures)
    (IsLeastOut-more c.args.net.now.present c.args.place c.args.from known c.requires.place c.requires.from c.args.list.now c.requires.list c.args.b c.loop-k.k j c.loop-k.least c.way_by.result c.loop-k.invariant c.loop-k-test.true
    (get_or_default c.args.list.now c.loop-k.k 0 j c.loop-k-test.true) c.way_by.ensures)

pub returns : goal.returns
returns c =
    let known : IsNet c.args.net.now.present = record { places = c.invariants.ensures.names; used = c.invariants.ensures.in_use; light = c.invariants.ensures.light; dates = c.invariants.ensures.dates } in
    IsFar-least_out c.args.net.now.present c.args.place c.args.from known c.requires.place c.requires.from c.args.list.now c.requires.list c.args.b c.loop-k.k c.loop-k.least (omega (arith, c.loop-k-test.false)) c.requires.other c.loop-k.invariant
