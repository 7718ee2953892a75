-- Tables of nodes that stand right.
use Rattle.std.proofs.Common.{◌≡◌, ◌≢◌, ℕ, ◌<◌, ◌≤◌, [], ◌∷◌, Option, Some, None, IsSome, Bool, true, false, cond, refl, sym, ap, ◌∙◌, subst, inl, inr, arith, option_map}
use Rattle.std.specs.Prelude.{IfSome}
use Rattle.std.proofs.lemmas.Bool.{cases_eq}
use Rattle.row_links.specs.Lists.{IsOn}
use Rattle.undo_rows.specs.declared.row.Row.{Row}
use Rattle.undo_rows.specs.Tables.{Table, AreListed, live, live_table, with_new, new_row, head_in, head_of}
use Rattle.undo_rows.proofs.Written.{with_row-same, with_row-other}
use Rattle.occ_tree.specs.declared.node.Node.{Node}
use Rattle.occ_tree.specs.declared.node.Above.{Above}
use Rattle.occ_tree.specs.Nodes.{Nodes, parent_of, WillBePlaced}
use Rattle.occ_tree.specs.Standing.{nodes_in, head_for, siblings_in, IsStanding}
use Rattle.occ_tree.proofs.Placing.{placed_new}

-- the row of a node
pub row_at : (t : Table Node 1) (x : ℕ) (n : Node) → nodes_in t x ≡ Some n → (r : Row Node 1) × (t.row x ≡ Some r) × (r.value ≡ n)
row_at t x n at = by (t.row x) refl at
  where
    by : (o : Option (Row Node 1)) → t.row x ≡ o → option_map (λ (r : Row Node 1). r.value) o ≡ Some n → (r : Row Node 1) × (t.row x ≡ Some r) × (r.value ≡ n)
    by None is here = absurd (cc)
    by (Some r) is here = (r, is, cc)

pub node_at : (t : Table Node 1) (x : ℕ) (r : Row Node 1) → t.row x ≡ Some r → nodes_in t x ≡ Some r.value
node_at t x r at = ap (option_map (λ (q : Row Node 1). q.value)) at

pub no_node_at : (t : Table Node 1) (x : ℕ) → t.row x ≡ None → nodes_in t x ≡ None
no_node_at t x at = ap (option_map (λ (q : Row Node 1). q.value)) at

-- ---- no nodes

pub standing_none : (t : Table Node 1) → ((x : ℕ) → t.row x ≡ None) → IsStanding 0 t
standing_none t none = record {
  placed = record {
    each = λ x n at. let is : None ≡ Some n = sym (no_node_at t x (none x)) ∙ at in cc;
    apart = λ x y m n x_at y_at parent name. let is : None ≡ Some m = sym (no_node_at t x (none x)) ∙ x_at in cc;
  };
  heads = λ x r at. let is : None ≡ Some r = sym (none x) ∙ at in cc;
  below = λ x r at. let is : None ≡ Some r = sym (none x) ∙ at in cc;
}

-- ---- a greater limit

pub standing_more : (t : Table Node 1) (limit more : ℕ) → limit ≤ more → IsStanding limit t → IsStanding more t
standing_more t limit more less s = record {
  placed = s.placed;
  heads = s.heads;
  below = λ x r at. let b = s.below x r at in omega (arith, b, less);
}

-- ---- a new node

module _ (t new : Table Node 1) (x : ℕ) (n : Node) (free : t.row x ≡ None) (is : new ≡ with_new t x (new_row (Some (head_for (parent_of n)) ∷ []) n)) where
  pub row_new : new.row x ≡ Some (new_row (Some (head_for (parent_of n)) ∷ []) n)
  row_new = ap (λ (u : Table Node 1). u.row x) is ∙ with_row-same t.row x (Some (new_row (Some (head_for (parent_of n)) ∷ []) n))

  pub row_other : (y : ℕ) → y ≢ x → new.row y ≡ t.row y
  row_other y other = ap (λ (u : Table Node 1). u.row y) is ∙ with_row-other t.row x (Some (new_row (Some (head_for (parent_of n)) ∷ []) n)) y other

  pub standing_new : (limit more : ℕ) → limit ≤ more → x < more → WillBePlaced (nodes_in t) n → IsStanding limit t → IsStanding more new
  standing_new limit more less within will s = record {
    placed = placed_new (nodes_in t) (nodes_in new) x n (no_node_at t x free) (node_at new x (new_row (Some (head_for (parent_of n)) ∷ []) n) row_new)
        (λ y other. ap (option_map (λ (q : Row Node 1). q.value)) (row_other y other)) s.placed will;
    heads = λ y r at. elim (cases_eq y x) [
      | inl same ↦
          let this : new_row (Some (head_for (parent_of n)) ∷ []) n ≡ r = (let both : Some (new_row (Some (head_for (parent_of n)) ∷ []) n) ≡ Some r = sym row_new ∙ ap new.row (sym same) ∙ at in cc) in
          subst (λ (q : Row Node 1). q.heads ≡ Some (head_for (parent_of q.value)) ∷ []) this refl
      | inr other ↦ s.heads y r (sym (row_other y other) ∙ at)
    ];
    below = λ y r at. elim (cases_eq y x) [
      | inl same ↦ subst (λ z. z < more) (sym same) within
      | inr other ↦ let b = s.below y r (sym (row_other y other) ∙ at) in omega (arith, b, less)
    ];
  }

-- the node below which another is to come is there
pub parent_there : (node : Nodes) (n : Node) → WillBePlaced node n → IfSome (parent_of n) (λ p. IsSome (node p))
parent_there node n will = by n.above refl
  where
    by : (o : Option Above) → n.above ≡ o → IfSome (option_map (λ (a : Above). a.parent) o) (λ p. IsSome (node p))
    by None above = tt
    by (Some a) above = let c = will.parent a above in subst (λ (o : Option Node). IsSome o) (sym c.at) refl

-- ---- the list of a node

pub live-live : (o : Option (Row Node 1)) → live (live o) ≡ live o
live-live None = refl
live-live (Some r) = by r.gone refl
  where
    by : (b : Bool) → r.gone ≡ b → live (cond b None (Some r)) ≡ cond b None (Some r)
    by true gone = refl
    by false gone = ap (λ b. cond b None (Some r)) gone

-- a node is on the list of its parent
pub on_list : (u : Table Node 1) (limit x : ℕ) (n : Node) → AreListed (live_table u) → IsStanding limit (live_table u) → nodes_in (live_table u) x ≡ Some n → IsOn (siblings_in (live_table u) (parent_of n)) x
on_list u limit x n listed s at =
    let (r, here, value) = row_at (live_table u) x n at in
    let head : head_of r 0 ≡ Some (head_for (parent_of n)) = ap (λ l. head_in l 0) (s.heads x r here) ∙ ap (λ (q : Node). Some (head_for (parent_of q))) value in
    (listed.each x 0 (head_for (parent_of n))).1 (r, live-live (u.row x) ∙ here, head)

-- what there is of a node
pub some_node : (node : Nodes) (x : ℕ) → IsSome (node x) → (n : Node) × (node x ≡ Some n)
some_node node x is = by (node x) refl is
  where
    by : (o : Option Node) → node x ≡ o → IsSome o → (n : Node) × (node x ≡ Some n)
    by None none is = absurd (cc)
    by (Some n) at is = (n, at)

-- the number of a node is below the limit
pub below_limit : (t : Table Node 1) (limit x : ℕ) → IsStanding limit t → IsSome (nodes_in t x) → x < limit
below_limit t limit x s live =
    let (n, at) = some_node (nodes_in t) x live in
    let (r, here, value) = row_at t x n at in
    s.below x r here
