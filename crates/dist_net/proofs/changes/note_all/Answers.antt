use Rattle.dist_net.proofs.Listing.{AreDrafted-start, AreDrafted-more, AreDrafted-all}
use Rattle.dist_net.proofs.changes.note_all.Goals as goal

pub loop-place-init : goal.loop-place-init
loop-place-init c = (AreDrafted-start c.args.places.now c.args.list.now.items, c.requires.room)

pub loop-place-preserved : goal.loop-place-preserved
loop-place-preserved c = (
  AreDrafted-more c.args.places.now c.args.list.now.items c.loop-place.list.items c.note.new.list.items c.loop-place.place-index c.loop-place-test.true c.note.ensures.noted c.loop-place.invariant.0,
  c.note.ensures.capacity,
)

pub returns-clause-kept : goal.returns-clause-kept
returns-clause-kept c = c.loop-place.invariant.0.kept

pub returns-clause-listed : goal.returns-clause-listed
returns-clause-listed c k covered = AreDrafted-all c.args.places.now c.args.list.now.items c.loop-place.list.items c.loop-place.place-index k c.loop-place-test.false c.loop-place.invariant.0 covered
