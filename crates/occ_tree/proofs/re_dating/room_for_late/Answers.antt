use Rattle.std.proofs.Common.{◌∙◌, [], sym}
use Rattle.undo_rows.specs.Changes.{table_in}
use Rattle.occ_tree.specs.Standing.{nodes_in, present_rows}
use Rattle.occ_tree.proofs.Following.{have_roots}
use Rattle.occ_tree.proofs.Late.{right_but}
use Rattle.occ_tree.proofs.Listed.{siblings_are}
use Rattle.occ_tree.proofs.OnWays.{way_leads}
use Rattle.occ_tree.proofs.SortedBelow.{on_same, once_same}
use Rattle.occ_tree.proofs.TokenLists.{some_is}
use Rattle.occ_tree.proofs.re_dating.room_for_late.Goals as goal

pub push_below-requires : goal.push_below-requires
push_below-requires c = c.in_ok-numbers.ensures.tops

pub returns-clause-live : goal.returns-clause-live
returns-clause-live c = λ y on.
    let node = nodes_in (present_rows c.args.nodes.now) in
    let (x, top, way) = (c.in_ok-push_below.ensures.each y).0 (sym (on_same c.push_below.new.numbers.items c.sort_nodes.new.numbers.items c.sort_nodes.ensures.same y) ∙ on) in
    let (n, at) = way_leads node x y way in
    some_is (node y) n at

pub returns-clause-once : goal.returns-clause-once
returns-clause-once c = once_same c.push_below.new.numbers.items c.sort_nodes.new.numbers.items c.sort_nodes.ensures.same c.in_ok-push_below.ensures.once

pub returns-clause-right : goal.returns-clause-right
returns-clause-right c = λ y live off.
    let t = present_rows c.args.nodes.now in
    let rows = c.args.nodes.now.rows in
    let r = c.in_ok-numbers.ensures in
    let stands = c.limit.ensures.stands in
    right_but c.args.net.now.present t stands.placed c.requires.dates c.requires.list c.in_ok-numbers.numbers.items c.push_below.new.numbers.items
    (have_roots t (λ class. []) stands.placed (siblings_are (table_in rows.rows rows.families) r.listed rows.places stands) (r.listed.once 0 0))
    r.right c.in_ok-push_below.ensures y live (λ on. off (on_same c.push_below.new.numbers.items c.sort_nodes.new.numbers.items c.sort_nodes.ensures.same y ∙ on))
