use Rattle.std.proofs.Common.{◌∙◌, ap, sym, length, arith}
use Rattle.occ_tree.specs.Standing.{nodes_in, present_rows}
use Rattle.occ_tree.proofs.Ways.{length-way, length-links, way_of_live, live_by_way}
use Rattle.occ_tree.proofs.nodes.Nodes.shared.Goals as goal

pub lowest_common-requires-clause-x : goal.lowest_common-requires-clause-x
lowest_common-requires-clause-x c = way_of_live (nodes_in (present_rows c.args.self.now)) c.args.x c.requires.x_live

pub lowest_common-requires-clause-y : goal.lowest_common-requires-clause-y
lowest_common-requires-clause-y c = way_of_live (nodes_in (present_rows c.args.self.now)) c.args.y c.requires.y_live

pub get-requires : goal.get-requires
get-requires c = live_by_way (nodes_in (present_rows c.args.self.now)) c.in-Some.last c.in-Some.ensures.node

pub overflow_add-result : goal.overflow_add-result
overflow_add-result c =
    let node = nodes_in (present_rows c.args.self.now) in
    let n = c.get.result.now in
    let few = (c.get.ensures.stands.placed.each c.in-Some.last n c.get.ensures.node).light.few in
    let long = length-links node c.in-Some.last n c.get.ensures.node in
    omega (arith, few, long)

pub returns-in-Some : goal.returns-in-Some
returns-in-Some c =
    let node = nodes_in (present_rows c.args.self.now) in
    sym (length-way node c.in-Some.last c.get.result.now c.get.ensures.node) ∙ ap length c.in-Some.ensures.shared
