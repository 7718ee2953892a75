use Rattle.std.proofs.Common.{subst}
use Rattle.occ_tree.specs.Nodes.{ArePlaced}
use Rattle.occ_tree.specs.Standing.{Grove, nodes_in, present_rows}
use Rattle.occ_tree.proofs.Effects.{root_placed, root_is}
use Rattle.occ_tree.proofs.nodes.Nodes.root.Goals as goal

pub returns-clause-placed : goal.returns-clause-placed
returns-clause-placed c =
    let a = c.args in
    let placed = subst (λ (g : Grove). ArePlaced (nodes_in (present_rows g))) c.self.view_is c.self.invariant.now.placed in
    root_placed a.name c.of_none.result a.begin a.end a.what a.class a.list a.shape a.early c.requires.date (nodes_in (present_rows a.self.now)) placed c.requires.new c.requires.word c.of_none.ensures c.requires.class

pub returns-clause-root : goal.returns-clause-root
returns-clause-root c =
    let a = c.args in
    root_is a.name c.of_none.result a.begin a.end a.what a.class a.list a.shape a.early c.requires.date
