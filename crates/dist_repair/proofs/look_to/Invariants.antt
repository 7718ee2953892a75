use Rattle.dist_repair.specs.Rows.{row_of}
use Rattle.dist_repair.proofs.Listing.{places_to}
use Rattle.dist_repair.proofs.Looking.{IsLooking}
use Rattle.dist_repair.proofs.look_to.Given as goal

abbrev pub invariant-places : goal.invariant-places
invariant-places l = IsLooking l.net.present l.place l.a l.point l.ends (row_of l.fn.row) l.fn.again.items l.at (row_of l.row) l.again.items

abbrev pub decreases-places : goal.decreases-places
decreases-places l = places_to l.at
