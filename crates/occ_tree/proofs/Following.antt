-- The dates of a tree follow those of its roots.
use Rattle.std.proofs.Common.{◌≡◌, ◌∙◌, ℕ, List, [], Option, Some, None, ap, sym, ◌↔◌, option_map, IsSome}
use Rattle.std.specs.Prelude.{◌+ℤ◌}
use Rattle.row_links.specs.Lists.{IsOn, AreOnce}
use Rattle.undo_rows.specs.Tables.{Table}
use Rattle.tmm_model.specs.declared.token.TokenRow.{TokenRow}
use Rattle.spots.specs.declared.spot.Spot.{Spot}
use Rattle.spots.specs.Forest.{Member}
use Rattle.spots.specs.Spots.{links_low}
use Rattle.occ_tree.specs.declared.node.Node.{Node}
use Rattle.occ_tree.specs.declared.node.Above.{Above}
use Rattle.occ_tree.specs.Below.{IsBelow}
use Rattle.occ_tree.specs.Dated.{DatesFollow, HaveRoots}
use Rattle.occ_tree.specs.Nodes.{Way, parent_of, root_of, way_to, member_of, forest_in, date_in, FollowRoots, ArePlaced}
use Rattle.occ_tree.specs.Standing.{nodes_in, siblings_in}
use Rattle.occ_tree.proofs.Beneath.{way_from_below}
use Rattle.occ_tree.proofs.Effects.{member_at, no_above, way_root}
use Rattle.occ_tree.proofs.Keeping.{date_at, node_of_member, node_if_live}
use Rattle.occ_tree.proofs.Members.{below_root}
use Rattle.occ_tree.proofs.Moved.{root_above, root_is}
use Rattle.occ_tree.proofs.Telling.{root_told}

module _ (t : Table Node 1) (tokens : List ℕ → List (TokenRow Spot)) (placed : ArePlaced (nodes_in t)) where
  -- **The date of each node is that of its root and the least delays on the way.**
  pub follow : FollowRoots (nodes_in t) → DatesFollow (record { rows = t; tokens = tokens })
  follow dates x y b none =
      let node = nodes_in t in
      let (m, m_at, root) = root_above node placed x b.above b.above_at none in
      let (n, n_at, is) = node_of_member node y b.below b.below_at in
      let up : root_of y n ≡ x = root_is node placed x m m_at root y n n_at (way_from_below node placed x y b) in
      let low : n.sums.low ≡ links_low b.below.links = (placed.each y n n_at).sums.low ∙ ap (λ (k : Member). links_low k.links) (sym is) in
      date_at node y n n_at ∙ dates y n n_at ∙ (λ i. date_in node (up i) +ℤ low i)

  module _ (siblings : (parent : Option ℕ) (y : ℕ) → IsOn (siblings_in t parent) y ↔ ((n : Node) × (nodes_in t y ≡ Some n) × (parent_of n ≡ parent))) where
    -- **The roots are listed, and each node is one of them or below it.**
    pub have_roots : AreOnce (siblings_in t None) → HaveRoots (record { rows = t; tokens = tokens })
    have_roots once = record { once = once; roots = roots; above = above }
      where
        roots : (x : ℕ) → IsOn (siblings_in t None) x → (m : Member) × (forest_in (nodes_in t) x ≡ Some m) × (m.links ≡ [])
        roots x on =
            let (n, n_at, top) = (siblings None x).0 on in
            (member_of (way_to (nodes_in t) x) n, member_at (nodes_in t) x n n_at, ap (λ (w : Way). w.links) (way_root (nodes_in t) placed x n n_at (no_above n top)))

        above : (y : ℕ) → IsSome (forest_in (nodes_in t) y) → (x : ℕ) × IsOn (siblings_in t None) x × IsBelow (forest_in (nodes_in t)) x y
        above y live =
            let (n, n_at) = node_if_live (nodes_in t) y live in
            let (r, r_at, root, none) = root_told (nodes_in t) placed y n n_at in
            let (q, q_at, top) = root_above (nodes_in t) placed (root_of y n) r r_at none in (
              root_of y n,
              (siblings None (root_of y n)).1 (q, q_at, ap (option_map (λ (a : Above). a.parent)) top),
              below_root (forest_in (nodes_in t)) (root_of y n) y r (member_of (way_to (nodes_in t) y) n) r_at (member_at (nodes_in t) y n n_at) none root,
            )
