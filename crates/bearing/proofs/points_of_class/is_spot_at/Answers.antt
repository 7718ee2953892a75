use Rattle.std.proofs.Common.{◌∙◌, sym, ap, subst}
use Rattle.spots.specs.Spots.{base_of}
use Rattle.occ_tree.specs.Places.{forest}
use Rattle.bearing.specs.PointSets.{is_in}
use Rattle.bearing.specs.Reach.{IsDeclaredOrLive}
use Rattle.bearing.proofs.Placed.{row_base}
use Rattle.bearing.proofs.points_of_class.is_spot_at.Goals as goal

pub returns-in-Node : goal.returns-in-Node
returns-in-Node c =
    let f = forest c.args.tree.now in
    let live = subst (IsDeclaredOrLive f) c.in-Node.is c.requires in
    c.is_in-in-Node.ensures ∙ ap (is_in c.args.points.now) (sym (row_base f c.in-Node.x c.row.result live c.row.ensures) ∙ ap (base_of f) (sym c.in-Node.is))
