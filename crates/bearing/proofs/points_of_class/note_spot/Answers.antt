use Rattle.std.proofs.Common.{◌≡◌, ◌<◌, sym, subst}
use Rattle.spots.specs.declared.spot.Spot.TheVariants.{Node}
use Rattle.spots.proofs.Nodes.{node_at}
use Rattle.occ_tree.specs.Places.{forest}
use Rattle.bearing.specs.Reach.{Notes, IsSpotBelow256}
use Rattle.bearing.proofs.Placed.{row_base, row_high}
use Rattle.bearing.proofs.Reached.{notes_spot}
use Rattle.bearing.proofs.points_of_class.note_spot.Goals as goal

pub note-requires-in-Node-clause-point : goal.note-requires-in-Node-clause-point
note-requires-in-Node-clause-point c =
    let f = forest c.args.tree.now in
    let live = subst (IsSpotBelow256 f) c.in-Node.is c.requires.spot in
    let (m, at) = node_at f c.in-Node.x live in
    subst (λ n. n < 256) (sym (c.row-row.ensures m at).begin) (c.requires.below.begin c.in-Node.x m at)

pub returns-in-Node : goal.returns-in-Node
returns-in-Node c =
    let f = forest c.args.tree.now in
    let live = subst (IsSpotBelow256 f) c.in-Node.is c.requires.spot in
    let x = c.in-Node.x in
    let row = c.row-row.result in
    subst (λ z. Notes f (λ p. p ≡ z) c.args.reach.now c.note-in-Node.new.reach) (sym c.in-Node.is)
    (notes_spot f (Node x) row.begin row.high c.args.reach.now c.note-in-Node.new.reach (row_base f x row live c.row-row.ensures) (row_high f x row live c.row-row.ensures) c.note-in-Node.ensures.all c.note-in-Node.ensures.bounded)
