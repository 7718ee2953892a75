-- A way ends with its node.
use Rattle.std.specs.Prelude.{◌≡◌, ℕ, zero, suc, ◌<◌, [], length, Option, Some, None}
use Rattle.std.specs.Option.{option_map_or}
use Rattle.std.proofs.Common.{refl, sym, ap, subst, arith}
use Rattle.ancestors.specs.Ways.{EndsWith}
use Rattle.occ_tree.specs.declared.node.Node.{Node}
use Rattle.occ_tree.specs.Nodes.{Nodes, Way, no_way, way_from, way_to, parent_at}

pub ends_from : (node : Nodes) (d x : ℕ) → EndsWith (way_from node d x).numbers x
ends_from node zero x = ([], refl)
ends_from node (suc d) x = ((way_from node d (parent_at node x)).numbers, refl)

pub way_ends : (node : Nodes) (x : ℕ) → 0 < length (way_to node x).numbers → EndsWith (way_to node x).numbers x
way_ends node x some = by (node x) refl
  where
    way_of : Option Node → Way
    way_of o = option_map_or (λ (q : Node). way_from node q.depth x) o no_way

    by : (o : Option Node) → node x ≡ o → EndsWith (way_to node x).numbers x
    by (Some n) at = subst (λ (o : Option Node). EndsWith (way_of o).numbers x) (sym at) (ends_from node n.depth x)
    by None at = absurd (let none : length (way_to node x).numbers ≡ 0 = ap (λ (o : Option Node). length (way_of o).numbers) at in omega (arith, some, none))
