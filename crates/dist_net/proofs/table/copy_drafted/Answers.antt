use Rattle.std.proofs.Common.{◌∙◌, arith}
use Rattle.dist_net.proofs.Copies.{AreTaken-start, AreTaken-listed, AreTaken-all}
use Rattle.dist_net.proofs.Listing.{IsMarking-start, IsMarking-trans, drafted_reaches, drafted_reads}
use Rattle.dist_net.proofs.table.copy_drafted.Goals as goal

pub loop-i-init : goal.loop-i-init
loop-i-init c = (AreTaken-start c.args.names.now c.args.draft.now c.args.changes.now.drafted c.args.table.now c.requires.places (omega (arith, c.requires.count, c.requires.few)) c.requires.drafted, IsMarking-start c.args.changes.now c.args.table.now)

pub drafted_at-place-requires : goal.drafted_at-place-requires
drafted_at-place-requires c = drafted_reaches c.args.changes.now c.loop-i.changes c.args.table.now c.loop-i.table c.loop-i.i c.loop-i.invariant.1 (omega (arith, c.requires.count, c.loop-i-test.true))

pub loop-i-preserved : goal.loop-i-preserved
loop-i-preserved c = (
  AreTaken-listed c.args.names.now c.args.draft.now c.args.changes.now.drafted c.args.table.now c.loop-i.table c.copy_place.new.table c.loop-i.i c.drafted_at-place.result (omega (arith, c.requires.count, c.loop-i-test.true))
      (c.drafted_at-place.ensures 0 ∙ drafted_reads c.args.changes.now c.loop-i.changes c.args.table.now c.loop-i.table c.loop-i.i c.loop-i.invariant.1 (omega (arith, c.requires.count, c.loop-i-test.true))) c.loop-i.invariant.0 c.copy_place.ensures.taken,
  IsMarking-trans c.args.changes.now c.loop-i.changes c.copy_place.new.changes c.args.table.now c.loop-i.table c.copy_place.new.table c.loop-i.invariant.1 c.copy_place.ensures.marking,
)

pub returns-clause-copied : goal.returns-clause-copied
returns-clause-copied c = AreTaken-all c.args.names.now c.args.table.now c.args.draft.now _ c.loop-i.table c.loop-i.invariant.0 (λ k lt later. omega (arith, later.1, later.2, c.requires.count, c.loop-i-test.false))
