use Rattle.std.proofs.Common.{sym, subst}
use Rattle.occ_tree.specs.Places.{forest}
use Rattle.joined.specs.Gaps.{IsClassSpot}
use Rattle.bearing.specs.Reach.{Notes}
use Rattle.bearing.proofs.WatchedPoints.{class_found}
use Rattle.bearing.proofs.points_of_rule.note_class_of.Goals as goal

pub returns : goal.returns
returns c =
    let s = c.args.standing.now.present in
    let f = forest c.args.tree.now in
    subst (λ z. Notes f (IsClassSpot f z) c.args.reach.now c.note_class.new.reach) (sym (class_found s c.args.fact c.in-Some.class (sym c.in-Some.ensures))) c.note_class.ensures
