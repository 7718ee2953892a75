-- Nodes on the way to another.
use Rattle.std.proofs.Common.{◌≡◌, ℕ, zero, suc, ◌+◌, ◌<◌, ◌≤◌, List, [], ◌∷◌, ◌++◌, length, Option, Some, None, refl, sym, ap, ◌∙◌, subst, inl, inr, arith, option_map, ◌⊎◌}
use Rattle.std.specs.Prelude.{MatchOption}
use Rattle.std.proofs.lemmas.Bool.{false≢true}
use Rattle.row_links.specs.Lists.{IsOn}
use Rattle.row_links.proofs.Lists.{IsOn-first, IsOn-append_left, IsOn-append_right, IsOn-append_cases}
use Rattle.occ_tree.specs.Below.{IsRightBelow, IsOnWay}
use Rattle.occ_tree.specs.declared.node.Node.{Node}
use Rattle.occ_tree.specs.declared.node.Above.{Above}
use Rattle.occ_tree.specs.Ends.{way_ends}
use Rattle.occ_tree.specs.Nodes.{Nodes, Way, parent_of, way_from, way_to, HasParent}
use Rattle.occ_tree.proofs.InOrder.{on_one}
use Rattle.occ_tree.proofs.Ways.{HaveParents, way_to-at, way-further, node_on_way, way_of_live}
use Rattle.occ_tree.proofs.TokenLists.{some_is}

-- a node stands on the way to itself
pub on_own : (node : Nodes) (x : ℕ) (n : Node) → node x ≡ Some n → IsOnWay node x x
on_own node x n at =
    let (front, is) = way_ends node x (way_of_live node x (some_is (node x) n at)) in
    subst (λ l. IsOn l x) (sym is) (IsOn-append_right front (x ∷ []) x (IsOn-first x []))

-- there is a way to nodes alone
pub way_leads : (node : Nodes) (x y : ℕ) → IsOnWay node x y → (n : Node) × (node y ≡ Some n)
way_leads node x y on = node_on_way node y (some_on (way_to node y).numbers on)
  where
    some_on : (l : List ℕ) → IsOn l x → 0 < length l
    some_on [] on = absurd (false≢true on)
    some_on (z ∷ l) on = omega arith

module _ (node : Nodes) (parents : HaveParents node) where
  -- the way to what is right below
  way_on : (p y : ℕ) (n : Node) (a : Above) → node y ≡ Some n → n.above ≡ Some a → a.parent ≡ p → (way_to node y).numbers ≡ (way_to node p).numbers ++ y ∷ []
  way_on p y n a at above is =
      let has = subst (λ o. MatchOption o (n.depth ≡ 0) (HasParent node n)) above (parents y n at) in
      ap (λ (w : Way). w.numbers) (way-further node y n a at above has) ∙ ap (λ z. (way_to node z).numbers ++ y ∷ []) is

  above_from : (n : Node) (p : ℕ) → parent_of n ≡ Some p → (a : Above) × (n.above ≡ Some a) × (a.parent ≡ p)
  above_from n p is = by n.above refl is
    where
      by : (o : Option Above) → n.above ≡ o → option_map (λ (a : Above). a.parent) o ≡ Some p → (a : Above) × (n.above ≡ Some a) × (a.parent ≡ p)
      by None above is = absurd (cc)
      by (Some a) above is = (a, above, cc)

  pub way_right_below : (p y : ℕ) → IsRightBelow node p y → (way_to node y).numbers ≡ (way_to node p).numbers ++ y ∷ []
  way_right_below p y (n, at, below) = let (a, above, is) = above_from n p below in way_on p y n a at above is

  pub on_further : (x p y : ℕ) → IsRightBelow node p y → IsOnWay node x p → IsOnWay node x y
  on_further x p y below on = subst (λ l. IsOn l x) (sym (way_right_below p y below)) (IsOn-append_left (way_to node p).numbers (y ∷ []) x on)

  -- the node right above another is one less deep
  pub parent_there : (p y : ℕ) (n : Node) → node y ≡ Some n → parent_of n ≡ Some p → (q : Node) × (node p ≡ Some q) × (n.depth ≡ q.depth + 1)
  parent_there p y n at below =
      let (a, above, is) = above_from n p below in
      let (q, q_at, deep, begin) = subst (λ o. MatchOption o (n.depth ≡ 0) (HasParent node n)) above (parents y n at) in
      (q, ap node (sym is) ∙ q_at, deep)

  -- what stands on a way is its end, or stands on the way to the node right above
  pub on_way_cases : (x y : ℕ) (n : Node) → node y ≡ Some n → IsOnWay node x y → (x ≡ y) ⊎ ((p : ℕ) × (parent_of n ≡ Some p) × IsOnWay node x p)
  on_way_cases x y n at on = by n.above refl
    where
      by : (o : Option Above) → n.above ≡ o → (x ≡ y) ⊎ ((p : ℕ) × (parent_of n ≡ Some p) × IsOnWay node x p)
      by None above =
          let level : n.depth ≡ 0 = subst (λ o. MatchOption o (n.depth ≡ 0) (HasParent node n)) above (parents y n at) in
          let way : (way_to node y).numbers ≡ y ∷ [] = ap (λ (w : Way). w.numbers) (way_to-at node y n at ∙ ap (λ d. way_from node d y) level) in
          inl (on_one x y (subst (λ l. IsOn l x) way on))
      by (Some a) above = elim (IsOn-append_cases (way_to node a.parent).numbers (y ∷ []) x (subst (λ l. IsOn l x) (way_on a.parent y n a at above refl) on)) [
        | inl up ↦ inr (a.parent, ap (option_map (λ (b : Above). b.parent)) above, up)
        | inr here ↦ inl (on_one x y here)
      ]

  -- it is a node no deeper
  on_way_from : (d x y : ℕ) (n : Node) → node y ≡ Some n → n.depth ≡ d → IsOnWay node x y → (m : Node) × (node x ≡ Some m) × (m.depth ≤ n.depth)
  on_way_from zero x y n at deep on = by (on_way_cases x y n at on)
    where
      by : (x ≡ y) ⊎ ((p : ℕ) × (parent_of n ≡ Some p) × IsOnWay node x p) → (m : Node) × (node x ≡ Some m) × (m.depth ≤ n.depth)
      by (inl same) = (n, ap node same ∙ at, omega arith)
      by (inr (p, below, up)) = let (q, q_at, more) = parent_there p y n at below in absurd (omega (arith, deep, more))
  on_way_from (suc d) x y n at deep on = by (on_way_from d x) (on_way_cases x y n at on)
    where
      by : ((z : ℕ) (q : Node) → node z ≡ Some q → q.depth ≡ d → IsOnWay node x z → (m : Node) × (node x ≡ Some m) × (m.depth ≤ q.depth)) → (x ≡ y) ⊎ ((p : ℕ) × (parent_of n ≡ Some p) × IsOnWay node x p) → (m : Node) × (node x ≡ Some m) × (m.depth ≤ n.depth)
      by again (inl same) = (n, ap node same ∙ at, omega arith)
      by again (inr (p, below, up)) =
          let (q, q_at, more) = parent_there p y n at below in
          let (m, m_at, less) = again p q q_at (omega (arith, deep, more)) up in
          (m, m_at, omega (arith, less, more))

  pub on_way : (x y : ℕ) (n : Node) → node y ≡ Some n → IsOnWay node x y → (m : Node) × (node x ≡ Some m) × (m.depth ≤ n.depth)
  on_way x y n at on = on_way_from n.depth x y n at refl on

  -- no node stands on the way to the one right above it
  pub not_above_itself : (p y : ℕ) → IsRightBelow node p y → IsOnWay node y p → ⊥
  not_above_itself p y (n, at, below) on =
      let (q, q_at, more) = parent_there p y n at below in
      let (m, m_at, less) = on_way y p q q_at on in
      let both : Some m ≡ Some n = sym m_at ∙ at in
      let same : m ≡ n = cc in
      let deep = ap (λ (z : Node). z.depth) same in
      omega (arith, more, less, deep)
