use Rattle.std.proofs.Common.{ℕ, ◌∷◌, []}
use Rattle.std.specs.Prelude.{Result, Ok, Err, IfOk, ◌↔◌, Some}
use Rattle.std.specs.Global.{Vec}
use Rattle.row_links.specs.Lists.{IsOn}
use Rattle.spots.specs.Forest.{Forest}
use Rattle.occ_tree.specs.AtPoints.{IsRootAt, HaveNodesAt}
use Rattle.occ_tree.specs.Below.{IsBelow}
use Rattle.occ_tree.specs.Standing.{present, forest}
use Rattle.occ_tree.proofs.AtPoints.{nodes_below, no_nodes}
use Rattle.occ_tree.proofs.tree.Tree.nodes_at.Goals as goal

all_below : (f : Forest) (p root : ℕ) → IsRootAt f p (Some root) → {E : Type 0} (r : Result (Vec ℕ) E) → IfOk r (λ numbers. (y : ℕ) → IsOn numbers.items y ↔ IsBelow f root y) → IfOk r (λ nodes. HaveNodesAt f (p ∷ []) nodes.items)
all_below f p root at (Ok numbers) each = nodes_below f p root numbers.items at each
all_below f p root at (Err e) each = tt

pub returns-in-Some : goal.returns-in-Some
returns-in-Some c = all_below (forest (present c.args.self.now)) c.args.p c.in-Some.root c.in-Some.ensures c.numbers_below.result c.numbers_below.ensures.each

pub returns-in-None : goal.returns-in-None
returns-in-None c = no_nodes (forest (present c.args.self.now)) c.args.p c.new.result.items c.new.ensures.items c.in-None.ensures
