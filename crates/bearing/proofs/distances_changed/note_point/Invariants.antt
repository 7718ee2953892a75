use Rattle.bearing.specs.MovedPairs.{is_moved_among, PutsPairs}
use Rattle.bearing.specs.PointSets.{is_in}
use Rattle.bearing.proofs.Pairs.{OfPoint}
use Rattle.bearing.proofs.distances_changed.note_point.Given as goal

abbrev pub invariant-loop-q : goal.invariant-loop-q
invariant-loop-q l = PutsPairs (is_moved_among l.net (is_in l.kept)) (OfPoint l.p l.q) l.fn.pairs.items l.pairs.items
