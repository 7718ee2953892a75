use Rattle.std.proofs.Common.{sym, subst}
use Rattle.std.proofs.lemmas.List.Elements.{All-push}
use Rattle.std.specs.List.{All}
use Rattle.occ_tree.specs.Places.{forest}
use Rattle.bearing.specs.Windows.{IsWall}
use Rattle.bearing.proofs.moving_tokens.add_wall.Goals as goal

pub returns : goal.returns
returns c all =
    let are = IsWall c.args.order.now.net.now.present (forest c.args.order.now.tree.now) c.args.moving.now c.args.token.now in
    let told = c.is_wall.ensures.0 c.if-not-is_wall.false in
    subst (All are) (sym c.in_ok-push.ensures)
    (All-push are c.args.walls.now.items c.args.other.now all (record { of_other = told.0; class = c.requires.class; after = told.1; endless = c.requires.endless }))
