use Rattle.std.proofs.Common.{◌-◌, ℕ, ap, arith}
use Rattle.tmm_model.specs.Changes.{clip_pair}
use Rattle.tmm_model.specs.Moments.{Moment}
use Rattle.spots.specs.Forest.{moment_at}
use Rattle.occ_tree.specs.Places.{forest}
use Rattle.belief_list.proofs.Neighbours.{so_many, told_at}
use Rattle.belief_list.proofs.changes.token_after.Goals as goal

pub bounds-before-last : goal.bounds-before-last
bounds-before-last c =
    let at = moment_at (forest c.args.tree.now) in
    let length_is = so_many clip_pair (λ (p : ℕ × ℕ). (at p.0, at p.1)) c.args.pairs.now c.args.before.now c.args.many c.requires.within c.requires.before in
    let some = c.if-many-eq0.false in
    omega (arith, length_is, some)

pub occ_beside-requires-clause-occ : goal.occ_beside-requires-clause-occ
occ_beside-requires-clause-occ c =
    let at = moment_at (forest c.args.tree.now) in
    let some = c.if-many-eq0.false in
    ap (λ (k : Moment × Moment). k.1)
    (told_at clip_pair (λ (p : ℕ × ℕ). (at p.0, at p.1)) c.args.pairs.now c.args.before.now c.args.many c.requires.within c.requires.before (c.args.many - 1) c.index-before-last.result (0, 0) (omega (arith, some)))
