use Rattle.std.proofs.Common.{sym, subst}
use Rattle.spots.specs.Forest.{IsLive}
use Rattle.occ_tree.specs.Places.{forest}
use Rattle.supports.specs.Entries.{node_at}
use Rattle.supports.proofs.BranchesEntering.{spot_read, node_live, node_read}
use Rattle.supports.proofs.branches.is_before.Goals as goal

pub node_of-requires : goal.node_of-requires
node_of-requires c =
    let (class, are) = c.requires.tokens in
    let rows = c.args.rows.now in
    let place = c.args.entry.now.place in
    (node_at rows place, spot_read (forest c.args.order.now.tree.now) class rows are place c.requires.place c.index-rows-entry.result c.index-rows-entry.is)

pub early-requires-clause-live : goal.early-requires-clause-live
early-requires-clause-live c =
    let (class, are) = c.requires.tokens in
    let f = forest c.args.order.now.tree.now in
    let rows = c.args.rows.now in
    let place = c.args.entry.now.place in
    subst (IsLive f) (sym (node_read f class rows are place c.requires.place c.index-rows-entry.result c.index-rows-entry.is c.node_of.result c.node_of.ensures)) (node_live f class rows are place c.requires.place)
