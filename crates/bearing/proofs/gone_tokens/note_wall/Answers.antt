use Rattle.std.proofs.Common.{sym, subst}
use Rattle.std.proofs.lemmas.List.Elements.{All-push}
use Rattle.std.specs.List.{All}
use Rattle.spots.proofs.Nodes.{live_at}
use Rattle.occ_tree.specs.Places.{forest}
use Rattle.bearing.specs.Gone.{IsBehindGone}
use Rattle.bearing.proofs.LeftTokens.{place_in_use, row_behind}
use Rattle.bearing.proofs.gone_tokens.note_wall.Goals as goal

pub place_at-place-requires : goal.place_at-place-requires
place_at-place-requires c = let (x, m, is) = c.requires.row in (x, live_at (forest c.args.tree.now) x m is.here, is.spot)

pub is_surely_within-requires-clause-from : goal.is_surely_within-requires-clause-from
is_surely_within-requires-clause-from c =
    let (x, m, is) = c.requires.row in
    place_in_use c.args.net.now.committed (forest c.args.tree.now) x c.place_at-place.result c.requires.nodes (live_at (forest c.args.tree.now) x m is.here) (c.place_at-place.ensures x is.spot)

pub returns : goal.returns
returns c all =
    let net = c.args.net.now.committed in
    let f = forest c.args.tree.now in
    let gone = c.args.gone.now in
    let are = IsBehindGone net f gone in
    let (x, m, is) = c.requires.row in
    subst (All are) (sym c.in_ok-push.ensures)
    (All-push are c.args.walls.now.items (record { place = c.place_at-place.result; fact = c.args.row.now.fact }) all
    (row_behind net f gone c.args.row.now x m c.place_at-place.result is (c.place_at-place.ensures x is.spot) c.requires.class c.requires.no_span (c.is_surely_within.ensures c.if-not-is_surely_within.false)))
