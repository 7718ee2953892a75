use Rattle.std.proofs.Common.{◌∙◌, ap, sym, subst}
use Rattle.spots.specs.declared.spot.Spot.{Spot}
use Rattle.spots.specs.Spots.{IsSpot, base_of}
use Rattle.occ_tree.specs.Places.{forest}
use Rattle.justify.proofs.Bases.{begin_is}
use Rattle.justify.proofs.walks.base_point.Goals as goal

pub returns-in-Node : goal.returns-in-Node
returns-in-Node c =
    begin_is (forest c.args.tree.now) c.in-Node.x (subst (λ (s : Spot). IsSpot c.args.net.now.present.names (forest c.args.tree.now) s) c.in-Node.is c.requires) c.row.result c.row.ensures
    ∙ sym (ap (λ (s : Spot). base_of (forest c.args.tree.now) s) c.in-Node.is)
