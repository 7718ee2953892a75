use Rattle.std.proofs.Common.{ℕ, subst}
use Rattle.std.specs.Prelude.{Result, Ok, Err, IfOk, ◌↔◌}
use Rattle.std.specs.Global.{Vec}
use Rattle.row_links.specs.Lists.{IsOn}
use Rattle.occ_tree.specs.Below.{IsBelow, ListsBelow}
use Rattle.occ_tree.specs.Nodes.{Nodes, ArePlaced, forest_in}
use Rattle.occ_tree.specs.Standing.{Grove, nodes_in, present_rows}
use Rattle.occ_tree.proofs.Beneath.{below_from_way, way_from_below}
use Rattle.occ_tree.proofs.tree.Tree.numbers_below.Goals as goal

each_below : (node : Nodes) → ArePlaced node → (x : ℕ) {E : Type 0} (r : Result (Vec ℕ) E) → IfOk r (λ numbers. ListsBelow node x numbers.items)
    → IfOk r (λ numbers. (y : ℕ) → IsOn numbers.items y ↔ IsBelow (forest_in node) x y)
each_below node placed x (Ok numbers) lists = λ y. ((λ on. below_from_way node placed x y ((lists.each y).0 on)), λ below. (lists.each y).1 (way_from_below node placed x y below))
each_below node placed x (Err e) lists = tt

pub returns-clause-each : goal.returns-clause-each
returns-clause-each c =
    let placed = subst (λ (g : Grove). ArePlaced (nodes_in (present_rows g))) c.nodes.ensures c.limit.ensures.stands.placed in
    each_below (nodes_in (present_rows c.args.self.now.nodes)) placed c.args.x c.list_below.result
    (subst (λ (g : Grove). IfOk c.list_below.result (λ numbers. ListsBelow (nodes_in (present_rows g)) c.args.x numbers.items)) c.nodes-2.ensures c.list_below.ensures)
