use Rattle.occ_tree.specs.Places.{forest}
use Rattle.joined.specs.Shifting.{IsSpotOf}
use Rattle.bearing.proofs.Reached.{class_noted_too, reached}
use Rattle.bearing.proofs.points_of_class.reach_of.Goals as goal

pub returns-clause-all : goal.returns-clause-all
returns-clause-all c =
    let f = forest c.args.tree.now in
    let class = c.args.class.now in
    (reached f (IsSpotOf f class) c.in_ok-reach.reach c.note_class.new.reach c.in_ok-reach.ensures.all c.in_ok-reach.ensures.bounded c.in_ok-reach.ensures.places
    (class_noted_too f class c.in_ok-reach.reach c.note_spot.new.reach c.note_class.new.reach c.note_spot.ensures c.note_class.ensures)).0

pub returns-clause-bounded : goal.returns-clause-bounded
returns-clause-bounded c =
    let f = forest c.args.tree.now in
    let class = c.args.class.now in
    (reached f (IsSpotOf f class) c.in_ok-reach.reach c.note_class.new.reach c.in_ok-reach.ensures.all c.in_ok-reach.ensures.bounded c.in_ok-reach.ensures.places
    (class_noted_too f class c.in_ok-reach.reach c.note_spot.new.reach c.note_class.new.reach c.note_spot.ensures c.note_class.ensures)).1
