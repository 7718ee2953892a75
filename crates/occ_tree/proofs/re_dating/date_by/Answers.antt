use Rattle.std.proofs.Common.{◌∙◌, ◌<◌, length, take, sym, subst, arith}
use Rattle.std.proofs.lemmas.List.{take_more}
use Rattle.spots.specs.OfLists.{HasList}
use Rattle.occ_tree.specs.Dated.{base_early}
use Rattle.occ_tree.specs.Edits.{AreDated}
use Rattle.occ_tree.specs.Standing.{nodes_in, present_rows}
use Rattle.occ_tree.proofs.InTurn.{item_on}
use Rattle.occ_tree.proofs.Late.{members, dated_next}
use Rattle.occ_tree.proofs.Moved.{live_all}
use Rattle.occ_tree.proofs.re_dating.date_by.Goals as goal

pub date_node-requires-clause-list : goal.date_node-requires-clause-list
date_node-requires-clause-list c =
    let t = present_rows c.args.nodes.now in
    let u = present_rows c.loop-x.nodes in
    let net = c.args.net.now.present in
    subst (HasList net) (λ i y. sym (members net t u (take c.loop-x.x-index c.args.numbers.now) c.limit.ensures.stands.placed c.loop-x.invariant.dated y) i) c.requires.list

pub date_node-requires-clause-live : goal.date_node-requires-clause-live
date_node-requires-clause-live c =
    let numbers = c.args.numbers.now in
    let i = c.loop-x.x-index in
    let date = base_early c.args.net.now.present (nodes_in (present_rows c.args.nodes.now)) in
    let within : i < length numbers = omega (arith, c.loop-x-test.true) in
    live_all (present_rows c.args.nodes.now) (present_rows c.loop-x.nodes) date (take i numbers) c.loop-x.invariant.dated _ (c.requires.live _ (item_on numbers i _ within))

pub loop-x-preserved : goal.loop-x-preserved
loop-x-preserved c =
    let t = present_rows c.args.nodes.now in
    let u = present_rows c.loop-x.nodes in
    let v = present_rows c.date_node.new.nodes in
    let numbers = c.args.numbers.now in
    let i = c.loop-x.x-index in
    let inv = c.loop-x.invariant in
    let e = c.date_node.ensures in
    let d = e.dated in
    let net = c.args.net.now.present in
    let date = base_early net (nodes_in t) in
    let within : i < length numbers = omega (arith, c.loop-x-test.true) in
    record {
      dated = subst (λ l. AreDated t v l date) (sym (take_more numbers i _ within))
          (dated_next net t u v (take i numbers) _ d.node d.at d.present_is (c.requires.live _ (item_on numbers i _ within)) inv.dated);
      committed_rows = d.committed_is ∙ inv.committed_rows;
      places = d.places_are ∙ inv.places;
      room = let a = e.spare in let b = inv.room in omega (arith, a, b);
    }
