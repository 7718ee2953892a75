use Rattle.occ_tree.specs.Places.{forest}
use Rattle.bearing.proofs.LeftTokens.{place_in_use, walls_in_use}
use Rattle.bearing.proofs.gone_tokens.spares.Goals as goal

pub is_not_within-requires-clause-from : goal.is_not_within-requires-clause-from
is_not_within-requires-clause-from c =
    place_in_use c.args.net.now.committed (forest c.args.tree.now) c.args.x c.place_of-event.result c.requires.nodes c.requires.live c.place_of-event.ensures

pub are_walls-requires-clause-event : goal.are_walls-requires-clause-event
are_walls-requires-clause-event c =
    place_in_use c.args.net.now.committed (forest c.args.tree.now) c.args.x c.place_of-event.result c.requires.nodes c.requires.live c.place_of-event.ensures

pub are_walls-requires-clause-tokens : goal.are_walls-requires-clause-tokens
are_walls-requires-clause-tokens c = walls_in_use c.args.net.now.committed (forest c.args.tree.now) c.args.gone.now c.args.walls.now c.requires.nodes c.requires.walls
