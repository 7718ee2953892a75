use Rattle.std.proofs.Common.{◌≡◌, vec_capacity}
use Rattle.dist_net.proofs.Listing.{AreDrafted}
use Rattle.dist_net.proofs.changes.note_all.Given as goal

abbrev pub invariant-loop-place : goal.invariant-loop-place
invariant-loop-place l = AreDrafted l.places l.fn.list.items l.place-index l.list.items × (vec_capacity l.list ≡ 65536)
