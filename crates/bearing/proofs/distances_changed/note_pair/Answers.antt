use Rattle.std.proofs.Common.{◌∙◌, sym}
use Rattle.bearing.specs.MovedPairs.{is_moved_among}
use Rattle.bearing.specs.PointSets.{is_in}
use Rattle.bearing.proofs.Pairs.{pairs_one}
use Rattle.bearing.proofs.distances_changed.note_pair.Goals as goal

pub returns-then-is_moved : goal.returns-then-is_moved
returns-then-is_moved c =
    pairs_one (is_moved_among c.args.net.now (is_in c.args.kept.now)) c.args.pairs.now.items c.args.a c.args.b c.requires.from c.requires.to c.requires.places (sym c.is_moved.ensures ∙ c.if-is_moved.true)
