use Rattle.std.specs.List.{All}
use Rattle.dist_repair.specs.Rows.{IsHeld}
use Rattle.dist_repair.proofs.Listing.{IsAt, places_to}
use Rattle.dist_repair.proofs.hold_before.Given as goal

abbrev pub invariant-places : goal.invariant-places
invariant-places l = All (IsHeld l.net.present l.place) l.held × IsAt l.ends l.p l.at

abbrev pub decreases-places : goal.decreases-places
decreases-places l = places_to l.at
