use Rattle.std.proofs.Common.{◌≡◌, sym, subst, arith, IsSome}
use Rattle.row_links.specs.Lists.{IsOn, row_after}
use Rattle.undo_rows.specs.Changes.{table_in}
use Rattle.occ_tree.specs.Nodes.{parent_of}
use Rattle.occ_tree.specs.Standing.{Grove, nodes_in, present_rows, head_for, siblings_in}
use Rattle.occ_tree.proofs.Grown.{some_node, on_list}
use Rattle.occ_tree.proofs.nodes.Nodes.next.Goals as goal

pub next-requires : goal.next-requires
next-requires c =
    let rows = c.self.inside.rows in
    let live = subst (λ (g : Grove). IsSome (nodes_in (present_rows g) c.args.x)) (sym c.self.view_is) c.requires in
    let (n, at) = some_node (nodes_in (present_rows record { rows = rows })) c.args.x live in
    (omega arith, (head_for (parent_of n), on_list (table_in rows.rows rows.families) c.self.inside.rows.places c.args.x n c.first.ensures.listed c.self.invariant.now at))

pub returns : goal.returns
returns c = λ parent there.
    let on = subst (λ (g : Grove). IsOn (siblings_in (present_rows g) parent) c.args.x) (sym c.self.view_is) there in
    subst (λ (g : Grove). c.next.result ≡ row_after c.args.x (siblings_in (present_rows g) parent)) c.self.view_is (c.next.ensures (head_for parent) on)
