use Rattle.std.proofs.Common.{◌<◌, arith, subst, sym, IsSome}
use Rattle.std.specs.Prelude.{IfSome}
use Rattle.undo_rows.specs.Changes.{present}
use Rattle.occ_tree.specs.Standing.{Grove, nodes_in, present_rows}
use Rattle.occ_tree.proofs.Grown.{below_limit}
use Rattle.occ_tree.proofs.nodes.Nodes.head_below.Goals as goal

pub overflow_add-result : goal.overflow_add-result
overflow_add-result c =
    let live = subst (λ o. IfSome o (λ p. IsSome (nodes_in (present_rows c.args.self.now) p))) c.in-Some.is c.requires in
    let live_inside = subst (λ (g : Grove). IsSome (nodes_in (present_rows g) c.in-Some.x)) (sym c.self.view_is) live in
    let below : c.in-Some.x < c.self.inside.rows.places = below_limit (present c.self.inside.rows) c.self.inside.rows.places c.in-Some.x c.self.invariant.now live_inside in
    omega (arith, below, c.places.ensures.places)
