use Rattle.std.proofs.Common.{arith}
use Rattle.dist_net.proofs.Copies.{AreTaken-none, AreTaken-next, AreTaken-all}
use Rattle.dist_net.proofs.Listing.{IsMarking-start, IsMarking-trans}
use Rattle.dist_net.proofs.table.copy_all_drafted.Goals as goal

pub loop-place-init : goal.loop-place-init
loop-place-init c = (AreTaken-none c.args.names.now c.args.draft.now c.args.table.now c.requires.places, IsMarking-start c.args.changes.now c.args.table.now)

pub loop-place-preserved : goal.loop-place-preserved
loop-place-preserved c = (
  AreTaken-next c.args.names.now c.args.draft.now c.args.table.now c.loop-place.table c.copy_place.new.table c.loop-place.place c.loop-place.invariant.0 c.copy_place.ensures.taken,
  IsMarking-trans c.args.changes.now c.loop-place.changes c.copy_place.new.changes c.args.table.now c.loop-place.table c.copy_place.new.table c.loop-place.invariant.1 c.copy_place.ensures.marking,
)

pub returns-clause-copied : goal.returns-clause-copied
returns-clause-copied c = AreTaken-all c.args.names.now c.args.table.now c.args.draft.now _ c.loop-place.table c.loop-place.invariant.0 (λ k lt le. omega (arith, lt, le, c.loop-place-test.false))
