use Rattle.occ_tree.proofs.leaving.room_below.Goals as goal

pub sort_below-requires-clause-below : goal.sort_below-requires-clause-below
sort_below-requires-clause-below c = (c.args.x, c.in_ok-numbers.ensures)

pub returns-clause-below : goal.returns-clause-below
returns-clause-below c = c.sort_below.ensures.below c.args.x c.in_ok-numbers.ensures
