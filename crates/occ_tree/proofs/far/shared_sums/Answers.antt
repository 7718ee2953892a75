use Rattle.occ_tree.specs.Standing.{nodes_in, present_rows}
use Rattle.occ_tree.proofs.Grown.{some_node}
use Rattle.occ_tree.proofs.Parting.{parted_ways, shares_root}
use Rattle.occ_tree.proofs.Ways.{way_of_live, live_by_way}
use Rattle.occ_tree.proofs.far.shared_sums.Goals as goal

pub lowest_common-requires-clause-x : goal.lowest_common-requires-clause-x
lowest_common-requires-clause-x c = way_of_live (nodes_in (present_rows c.args.nodes.now)) c.args.x c.requires.x_live

pub lowest_common-requires-clause-y : goal.lowest_common-requires-clause-y
lowest_common-requires-clause-y c = way_of_live (nodes_in (present_rows c.args.nodes.now)) c.args.y c.requires.y_live

pub get-requires-in-Some : goal.get-requires-in-Some
get-requires-in-Some c = live_by_way (nodes_in (present_rows c.args.nodes.now)) c.in-Some.last c.in-Some.ensures.node

pub returns-in-Some : goal.returns-in-Some
returns-in-Some c =
    let node = nodes_in (present_rows c.args.nodes.now) in
    let placed = c.get-in-Some.ensures.stands.placed in
    let (m, m_at) = some_node node c.args.x c.requires.x_live in
    let (n, n_at) = some_node node c.args.y c.requires.y_live in
    let q = c.get-in-Some.result.now in
    parted_ways node placed c.args.x c.args.y c.in-Some.last m n q m_at n_at c.get-in-Some.ensures.node c.in-Some.ensures.shared q.sums (placed.each c.in-Some.last q c.get-in-Some.ensures.node).sums

pub returns-in-None : goal.returns-in-None
returns-in-None c =
    let node = nodes_in (present_rows c.args.nodes.now) in
    let placed = c.get.ensures.stands.placed in
    let (m, m_at) = some_node node c.args.x c.requires.x_live in
    let (n, n_at) = some_node node c.args.y c.requires.y_live in
    absurd (shares_root node placed c.args.x c.args.y m n m_at n_at c.requires.root c.in-None.ensures.shared)
