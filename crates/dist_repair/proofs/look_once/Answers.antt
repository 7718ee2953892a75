use Rattle.std.proofs.Common.{ℕ, List, get_or, sym, subst, refl}
use Rattle.std.proofs.lemmas.List.{get_or_default}
use Rattle.dist_repair.specs.Rows.{row_of}
use Rattle.dist_repair.proofs.Left.{IsNet}
use Rattle.dist_repair.proofs.Looking.{IsSurveying, IsSurveying-start, IsSurveying-more, AreDone-surveyed}
use Rattle.dist_repair.proofs.look_once.Goals as goal

pub loop-i-init : goal.loop-i-init
loop-i-init c =
    let known : IsNet c.args.net.now.present = record { places = c.invariants.ensures.names; used = c.invariants.ensures.in_use; light = c.invariants.ensures.light; dates = c.invariants.ensures.dates } in
    subst (λ (l : List ℕ). IsSurveying c.args.net.now.present c.args.place c.args.a c.args.ends.now c.args.points.now (row_of c.args.row.now) 0 (row_of c.args.row.now) l) (sym c.clear.ensures)
    (IsSurveying-start c.args.net.now.present c.args.place c.args.a c.args.ends.now c.args.points.now known (row_of c.args.row.now) c.requires.ends c.requires.started c.requires.beside)

pub loop-i-preserved : goal.loop-i-preserved
loop-i-preserved c =
    let known : IsNet c.args.net.now.present = record { places = c.invariants.ensures.names; used = c.invariants.ensures.in_use; light = c.invariants.ensures.light; dates = c.invariants.ensures.dates } in
    let p : ℕ = get_or c.args.points.now c.loop-i.i 0 in
    IsSurveying-more c.args.net.now.present c.args.place c.args.a c.args.ends.now c.args.points.now known (row_of c.args.row.now) (row_of c.loop-i.row) (row_of c.look_to.new.row) c.loop-i.again.items c.look_to.new.again.items c.loop-i.i p c.loop-i.invariant
    (get_or_default c.args.points.now c.loop-i.i 0 p c.loop-i-test.true) c.look_to.ensures.looked (c.if-not-look_to.ensures.done refl)

pub returns-clause-done : goal.returns-clause-done
returns-clause-done c answer = AreDone-surveyed c.args.net.now.present c.args.place c.args.a c.args.ends.now c.args.points.now (row_of c.args.row.now) (row_of c.loop-i.row) c.loop-i.again.items c.loop-i.i c.loop-i-test.false c.loop-i.invariant
