use Rattle.bearing.specs.MovedPairs.{is_moved_among, PutsPairs}
use Rattle.bearing.specs.PointSets.{is_in}
use Rattle.bearing.proofs.Pairs.{HasFirst}
use Rattle.bearing.proofs.distances_changed.moved_pairs.Given as goal

abbrev pub invariant-loop-p : goal.invariant-loop-p
invariant-loop-p l = PutsPairs (is_moved_among l.net (is_in l.kept)) (HasFirst l.net.moved l.p-index) l.initial.pairs.items l.pairs.items
