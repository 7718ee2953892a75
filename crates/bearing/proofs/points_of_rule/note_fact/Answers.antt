use Rattle.std.proofs.Common.{sym}
use Rattle.occ_tree.specs.Places.{forest}
use Rattle.bearing.proofs.WatchedPoints.{class_found, fact_noted}
use Rattle.bearing.proofs.points_of_rule.note_fact.Goals as goal

pub returns : goal.returns
returns c =
    let s = c.args.standing.now.present in
    fact_noted (forest c.args.tree.now) c.args.fact s c.requires.classed c.in-Some.class (class_found s c.args.fact c.in-Some.class (sym c.in-Some.ensures)) c.args.reach.now c.note_tokens.new.reach c.note_tokens.ensures
