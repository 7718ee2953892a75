-- Which nodes are on the list of a parent.
use Rattle.std.proofs.Common.{◌≡◌, ℕ, Option, Some, IsSome, sym, ap, ◌∙◌, subst, ◌↔◌}
use Rattle.row_links.specs.Lists.{IsOn}
use Rattle.undo_rows.specs.Tables.{Table, AreListed, live_table, head_in}
use Rattle.occ_tree.specs.declared.node.Node.{Node}
use Rattle.occ_tree.specs.Nodes.{parent_of}
use Rattle.occ_tree.specs.Standing.{nodes_in, head_for, siblings_in, IsStanding}
use Rattle.occ_tree.proofs.Entering.{head_for-one}
use Rattle.occ_tree.proofs.Grown.{node_at, live-live, on_list}
use Rattle.occ_tree.proofs.TokenLists.{some_is}

module _ (u : Table Node 1) (listed : AreListed (live_table u)) where
  -- it is a node
  pub listed_live : (f h y : ℕ) → IsOn ((live_table u).list f h) y → IsSome (nodes_in (live_table u) y)
  listed_live f h y on =
      let (r, at, head) = (listed.each y f h).0 on in
      some_is (nodes_in (live_table u) y) r.value (node_at (live_table u) y r (sym (live-live (u.row y)) ∙ at))

  -- those of this parent
  pub siblings_are : (limit : ℕ) → IsStanding limit (live_table u) → (parent : Option ℕ) (y : ℕ) → IsOn (siblings_in (live_table u) parent) y ↔ ((n : Node) × (nodes_in (live_table u) y ≡ Some n) × (parent_of n ≡ parent))
  siblings_are limit stands parent y = (
    λ on.
        let (r, at, head) = (listed.each y 0 (head_for parent)).0 on in
        let here : (live_table u).row y ≡ Some r = sym (live-live (u.row y)) ∙ at in
        let both : Some (head_for (parent_of r.value)) ≡ Some (head_for parent) = sym (ap (λ l. head_in l 0) (stands.heads y r here)) ∙ head in
        let same : head_for (parent_of r.value) ≡ head_for parent = cc in
        (r.value, node_at (live_table u) y r here, head_for-one (parent_of r.value) parent same),
    λ (n, at, below). subst (λ q. IsOn (siblings_in (live_table u) q) y) below (on_list u limit y n listed stands at),
  )
