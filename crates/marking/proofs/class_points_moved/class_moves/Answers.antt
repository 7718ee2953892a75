use Rattle.std.proofs.Common.{List, Bool, subst}
use Rattle.occ_tree.specs.Places.{forest}
use Rattle.occ_tree.specs.Standing.{present}
use Rattle.joined.specs.Shifting.{IsSpotOf}
use Rattle.bearing.specs.Touching.{IsTouchedAt}
use Rattle.bearing.proofs.Touched.{touched_moves}
use Rattle.marking.proofs.class_points_moved.class_moves.Goals as goal

pub returns-clause-moves : goal.returns-clause-moves
returns-clause-moves c = record {
  events = λ x. touched_moves (present c.args.tree.now) (IsSpotOf (forest c.args.tree.now) c.args.class) c.args.moves.now.pairs.items c.in_ok-reach.reach c.requires.moves.itself
      c.in_ok-reach.ensures.all c.in_ok-reach.ensures.bounded c.requires.below x c.in_ok-events.events
      (subst (λ (l : List Bool). IsTouchedAt l c.in_ok-reach.reach c.in_ok-events.events) c.deref.ensures.value c.in_ok-events.ensures);
  shifts = c.in_ok-shifts.ensures;
}
