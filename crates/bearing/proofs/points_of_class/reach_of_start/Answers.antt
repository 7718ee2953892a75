use Rattle.std.proofs.Common.{◌≡◌}
use Rattle.spots.specs.declared.spot.Spot.TheVariants.{Declared}
use Rattle.occ_tree.specs.Places.{forest}
use Rattle.bearing.proofs.Reached.{reached}
use Rattle.bearing.proofs.points_of_class.reach_of_start.Goals as goal

pub returns-clause-all : goal.returns-clause-all
returns-clause-all c =
    (reached (forest c.args.tree.now) (λ p. p ≡ Declared 0) c.in_ok-reach.reach c.note_spot.new.reach c.in_ok-reach.ensures.all c.in_ok-reach.ensures.bounded c.in_ok-reach.ensures.places c.note_spot.ensures).0

pub returns-clause-bounded : goal.returns-clause-bounded
returns-clause-bounded c =
    (reached (forest c.args.tree.now) (λ p. p ≡ Declared 0) c.in_ok-reach.reach c.note_spot.new.reach c.in_ok-reach.ensures.all c.in_ok-reach.ensures.bounded c.in_ok-reach.ensures.places c.note_spot.ensures).1
