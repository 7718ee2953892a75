use Rattle.std.proofs.Common.{◌-◌, ap, arith}
use Rattle.tmm_model.specs.Answers.{Row, row_of}
use Rattle.occ_tree.specs.Places.{forest}
use Rattle.belief_list.specs.Rows.{row_at}
use Rattle.belief_list.proofs.Neighbours.{so_many, told_at}
use Rattle.belief_list.proofs.list.occ_after.Goals as goal

pub bounds-before-last : goal.bounds-before-last
bounds-before-last c =
    let length_is = so_many row_of (row_at (forest c.args.tree.now)) c.args.rows.now c.args.before.now c.args.many c.requires.within c.requires.before in
    let some = c.if-many-eq0.false in
    omega (arith, length_is, some)

pub occ_beside-requires-clause-occ : goal.occ_beside-requires-clause-occ
occ_beside-requires-clause-occ c =
    let some = c.if-many-eq0.false in
    ap (λ (r : Row). r.occ)
    (told_at row_of (row_at (forest c.args.tree.now)) c.args.rows.now c.args.before.now c.args.many c.requires.within c.requires.before (c.args.many - 1) c.index-before-last.result _ (omega (arith, some)))
