use Rattle.std.proofs.Common.{subst}
use Rattle.spots.specs.Forest.{IsParent}
use Rattle.occ_tree.specs.Places.{forest}
use Rattle.spots.proofs.Nodes.{node_at, live_at}
use Rattle.justify.proofs.Origins.{declared_at, effect_at}
use Rattle.justify.proofs.grounds.origin_of.Goals as goal

pub returns-in-None : goal.returns-in-None
returns-in-None c =
    let f = forest c.args.tree.now in
    let (m, here) = node_at f c.args.x c.requires in
    let row = c.row-row.ensures m here in
    declared_at f c.args.x m here (subst (IsParent f m) c.in-None.is row.parent) c.row-row.result.name row.name

pub returns-in-Some : goal.returns-in-Some
returns-in-Some c =
    let f = forest c.args.tree.now in
    let (m, here) = node_at f c.args.x c.requires in
    let row = c.row-row.ensures m here in
    let (n, link, there, root, links) = subst (IsParent f m) c.in-Some.is row.parent in
    (live_at f c.in-Some.event n there, effect_at f c.args.x c.in-Some.event m n link here there root links c.row-row.result.name row.name)
