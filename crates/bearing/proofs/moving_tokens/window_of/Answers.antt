use Rattle.std.proofs.Common.{sym, subst}
use Rattle.std.specs.List.{All}
use Rattle.occ_tree.specs.Places.{forest}
use Rattle.bearing.specs.Windows.{IsOfNode}
use Rattle.bearing.proofs.Latest.{walls_of_nodes}
use Rattle.bearing.proofs.moving_tokens.window_of.Goals as goal

pub date_of_walls-until-requires-clause-walls : goal.date_of_walls-until-requires-clause-walls
date_of_walls-until-requires-clause-walls c =
    let f = forest c.args.tree.now in
    subst (All (IsOfNode f)) (sym c.deref.ensures.value) (walls_of_nodes c.args.net.now.present f c.args.moving.now c.token_at-token.result c.in_ok-walls.walls.items c.in_ok-walls.ensures)
