use Rattle.spots.specs.declared.spot.Spot.{Spot}
use Rattle.occ_tree.specs.Places.{forest}
use Rattle.bearing.specs.Reach.{IsOff}
use Rattle.bearing.proofs.Reached.{OfFirstRows}
use Rattle.bearing.proofs.points_of_class.has_token_at.Given as goal

abbrev pub invariant-loop-i : goal.invariant-loop-i
invariant-loop-i l = (p : Spot) → OfFirstRows (forest l.tree) l.rows l.i p → IsOff (forest l.tree) l.points p
