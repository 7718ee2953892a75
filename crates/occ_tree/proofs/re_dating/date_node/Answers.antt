use Rattle.std.proofs.Common.{◌∙◌, sym, subst, arith}
use Rattle.std.proofs.lemmas.Int.{ints}
use Rattle.spots.proofs.InUse.{begin_in_use}
use Rattle.occ_tree.specs.Edits.{Dates}
use Rattle.occ_tree.specs.Nodes.{way_to, member_of, forest_in}
use Rattle.occ_tree.specs.Standing.{nodes_in, present_rows}
use Rattle.occ_tree.proofs.Effects.{member_at, seen}
use Rattle.occ_tree.proofs.Late.{base_is}
use Rattle.occ_tree.proofs.re_dating.date_node.Goals as goal

pub date_of-date-requires-clause-point : goal.date_of-date-requires-clause-point
date_of-date-requires-clause-point c =
    let node = nodes_in (present_rows c.args.nodes.now) in
    let n = c.get.result.now in
    begin_in_use c.args.net.now.present (forest_in node) c.requires.list c.args.x (member_of (way_to node c.args.x) n) (member_at node c.args.x n c.get.ensures.node)

pub returns-clause-dated : goal.returns-clause-dated
returns-clause-dated c =
    let node = nodes_in (present_rows c.args.nodes.now) in
    let n = c.get.result.now in
    let (least, most) = c.date_of-date.ensures.small in
    let date = seen c.date_of-date.result (omega (arith, ints, least), omega (arith, ints, most)) in
    subst (Dates c.args.nodes.now c.date.new.self c.args.x) (date ∙ c.date_of-date.ensures.date ∙ sym (base_is c.args.net.now.present node c.args.x n c.get.ensures.node)) c.date.ensures.dated
