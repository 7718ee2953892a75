-- Occurrences, lists and dates with one node more.
use Rattle.std.proofs.Common.{◌≡◌, ◌≢◌, ℕ, List, [], ◌∷◌, ◌++◌, Option, Some, None, cond, eqb, refl, sym, ap, ◌∙◌, subst, arith, option_map, eq-eqb, ne_eqb}
use Rattle.std.specs.Option.{option_map_or}
use Rattle.std.specs.Prelude.{ℤ, pos, ◌+ℤ◌}
use Rattle.tmm_model.specs.declared.token.Shape.{Shape}
use Rattle.undo_rows.specs.declared.row.Row.{Row}
use Rattle.undo_rows.specs.Tables.{Table, with_new, new_row}
use Rattle.occ_tree.specs.declared.node.Node.{Node}
use Rattle.occ_tree.specs.declared.node.Above.{Above}
use Rattle.spots.specs.declared.link.Link.{Link}
use Rattle.spots.specs.Forest.{Member, root_member, child_member}
use Rattle.occ_tree.specs.Edits.{Adds, Grows}
use Rattle.occ_tree.specs.Nodes.{Way, further, link_of, parent_of, way_to, member_of, forest_in, date_in, ArePlaced, WillBePlaced, IsRoot, IsEffect}
use Rattle.occ_tree.specs.Standing.{nodes_in, head_for, siblings_in, present_rows, committed_rows, Kept, present, committed, forest, early}
use Rattle.occ_tree.proofs.Ways.{Extends, way-same}
use Rattle.occ_tree.proofs.Placing.{have_parents, extends_new, placed_new}
use Rattle.occ_tree.proofs.Grown.{node_at, no_node_at, row_new, row_other}
use Rattle.occ_tree.proofs.Effects.{above_of, member_at, way_below, way_root}

pub head_for-one : (p q : Option ℕ) → head_for p ≡ head_for q → p ≡ q
head_for-one None None same = refl
head_for-one None (Some y) same = absurd (omega (arith, same))
head_for-one (Some x) None same = absurd (omega (arith, same))
head_for-one (Some x) (Some y) same = let is : x ≡ y = omega (arith, same) in ap (λ z. Some z) is

module _ (t new : Table Node 1) (x : ℕ) (n : Node) (free : t.row x ≡ None) (is : new ≡ with_new t x (new_row (Some (head_for (parent_of n)) ∷ []) n)) where
  pub node_new : nodes_in new x ≡ Some n
  node_new = node_at new x (new_row (Some (head_for (parent_of n)) ∷ []) n) (row_new t new x n free is)

  pub node_other : (y : ℕ) → y ≢ x → nodes_in new y ≡ nodes_in t y
  node_other y other = ap (option_map (λ (q : Row Node 1). q.value)) (row_other t new x n free is y other)

  extends : Extends (nodes_in t) (nodes_in new)
  extends = extends_new (nodes_in t) (nodes_in new) x n (no_node_at t x free) node_new node_other

  pub date_new : date_in (nodes_in new) x ≡ n.early
  date_new = ap (λ o. option_map_or (λ (q : Node). q.early) o (pos 0)) node_new

  pub date_other : (y : ℕ) → y ≢ x → date_in (nodes_in new) y ≡ date_in (nodes_in t) y
  date_other y other = ap (λ o. option_map_or (λ (q : Node). q.early) o (pos 0)) (node_other y other)

  list_is : (h : ℕ) → new.list 0 h ≡ cond (eqb (head_for (parent_of n)) h) (t.list 0 h ++ x ∷ []) (t.list 0 h)
  list_is h = ap (λ (u : Table Node 1). u.list 0 h) is

  pub last_below : siblings_in new (parent_of n) ≡ siblings_in t (parent_of n) ++ x ∷ []
  last_below = let h = head_for (parent_of n) in list_is h ∙ ap (λ b. cond b (t.list 0 h ++ x ∷ []) (t.list 0 h)) (eq-eqb h h refl)

  pub others_below : (q : Option ℕ) → q ≢ parent_of n → siblings_in new q ≡ siblings_in t q
  others_below q other =
      let h = head_for q in
      list_is h ∙ ap (λ b. cond b (t.list 0 h ++ x ∷ []) (t.list 0 h)) (ne_eqb (head_for (parent_of n)) h (λ same. other (sym (head_for-one (parent_of n) q same))))

  module _ (placed : ArePlaced (nodes_in t)) where
    pub member_other : (y : ℕ) → y ≢ x → forest_in (nodes_in new) y ≡ forest_in (nodes_in t) y
    member_other y other = by (nodes_in t y) refl
      where
        by : (o : Option Node) → nodes_in t y ≡ o → forest_in (nodes_in new) y ≡ forest_in (nodes_in t) y
        by None at =
            ap (option_map (member_of (way_to (nodes_in new) y))) (node_other y other ∙ at) ∙ ap (option_map (member_of (way_to (nodes_in t) y))) (sym at)
        by (Some q) at =
            member_at (nodes_in new) y q (node_other y other ∙ at)
            ∙ ap (λ w. Some (member_of w q)) (way-same (nodes_in t) (nodes_in new) extends (have_parents (nodes_in t) placed) y q at)
            ∙ sym (member_at (nodes_in t) y q at)

    module _ (will : WillBePlaced (nodes_in t) n) where
      new_placed : ArePlaced (nodes_in new)
      new_placed = placed_new (nodes_in t) (nodes_in new) x n (no_node_at t x free) node_new node_other placed will

      pub member_root : n.above ≡ None → forest_in (nodes_in new) x ≡ Some (member_of (record { numbers = x ∷ []; root = n.name; links = [] }) n)
      member_root above =
          let way : way_to (nodes_in new) x ≡ record { numbers = x ∷ []; root = n.name; links = [] } =
          way_root (nodes_in new) new_placed x n node_new above ∙ (λ i. record { numbers = x ∷ []; root = option_map_or (λ (q : Node). q.name) (node_new i) []; links = [] }) in
          member_at (nodes_in new) x n node_new ∙ ap (λ w. Some (member_of w n)) way

      pub member_child : (a : Above) → n.above ≡ Some a → forest_in (nodes_in new) x ≡ Some (member_of (further (way_to (nodes_in t) a.parent) x (link_of n)) n)
      member_child a above =
          let c = will.parent a above in
          let way : way_to (nodes_in new) x ≡ further (way_to (nodes_in t) a.parent) x (link_of n) =
          way_below (nodes_in new) new_placed x n a node_new above
          ∙ ap (λ (w : Way). further w x (link_of n)) (way-same (nodes_in t) (nodes_in new) extends (have_parents (nodes_in t) placed) a.parent c.above c.at) in
          member_at (nodes_in new) x n node_new ∙ ap (λ w. Some (member_of w n)) way

-- ---- what a tree gains

no_member : (t : Table Node 1) (x : ℕ) → t.row x ≡ None → forest_in (nodes_in t) x ≡ None
no_member t x at = ap (option_map (member_of (way_to (nodes_in t) x))) (no_node_at t x at)

module _ (old new : Kept) (x : ℕ) (n : Node) (adds : Adds old.nodes new.nodes x n) (placed : ArePlaced (nodes_in (present_rows old.nodes))) (will : WillBePlaced (nodes_in (present_rows old.nodes)) n) where
  pub gone_before : forest (committed old) x ≡ None
  gone_before = no_member (committed_rows old.nodes) x adds.was_free

  grows : (m : Member) (parent : Option ℕ) (date : ℤ) → parent_of n ≡ parent → n.early ≡ date → forest (present new) x ≡ Some m → Grows (present old) (present new) x m parent date
  grows m parent date parent_is early_is entered = subst (λ q. Grows (present old) (present new) x m q date) parent_is (record {
    free = no_member (present_rows old.nodes) x adds.free;
    entered = entered;
    others = member_other (present_rows old.nodes) (present_rows new.nodes) x n adds.free adds.present_is placed;
    last = last_below (present_rows old.nodes) (present_rows new.nodes) x n adds.free adds.present_is;
    lists = others_below (present_rows old.nodes) (present_rows new.nodes) x n adds.free adds.present_is;
    date_is = date_new (present_rows old.nodes) (present_rows new.nodes) x n adds.free adds.present_is ∙ early_is;
    dates = date_other (present_rows old.nodes) (present_rows new.nodes) x n adds.free adds.present_is;
  })

  pub grows_root : (name : List ℕ) (begin : ℕ) («end» : Option ℕ) (what : List ℕ) (class : Option (List ℕ)) (list : Option ℕ) (shape : Shape) (early : ℤ) → IsRoot name begin «end» what class list shape early n → Grows (present old) (present new) x (root_member name begin «end» what class shape) None early
  grows_root name begin «end» what class list shape early r =
      grows (root_member name begin «end» what class shape) None early (ap (option_map (λ (a : Above). a.parent)) r.above_is) r.early_is
      (member_root (present_rows old.nodes) (present_rows new.nodes) x n adds.free adds.present_is placed will r.above_is
      ∙ (λ i. Some record { root = r.name_is i; links = []; begin = r.begin_is i; end = r.end_is i; what = r.what_is i; class = r.class_is i; shape = r.shape_is i }))

  pub grows_child : (parent : ℕ) (link : Link) (what : List ℕ) (class : Option (List ℕ)) (list : Option ℕ) (shape : Shape) (m : Member) → forest (present old) parent ≡ Some m → IsEffect (nodes_in (present_rows old.nodes)) parent link what class list shape n
      → Grows (present old) (present new) x (child_member m link what class shape) (Some parent) (early (present old) parent +ℤ link.lo)
  grows_child parent link what class list shape m m_at e =
      let (a, above, is) = above_of n parent e.parent_is in
      let c = will.parent a above in
      let node = nodes_in (present_rows old.nodes) in
      let at : node parent ≡ Some c.above = ap node (sym is) ∙ c.at in
      let m_is : m ≡ member_of (way_to node parent) c.above = (let both : Some m ≡ Some (member_of (way_to node parent) c.above) = sym m_at ∙ member_at node parent c.above at in cc) in
      grows (child_member m link what class shape) (Some parent) (early (present old) parent +ℤ link.lo) e.parent_is e.early_is
      (member_child (present_rows old.nodes) (present_rows new.nodes) x n adds.free adds.present_is placed will a above
      ∙ ap (λ z. Some (member_of (further (way_to node z) x (link_of n)) n)) is
      ∙ (λ i. Some record { root = (way_to node parent).root; links = (way_to node parent).links ++ e.link_is i ∷ []; begin = c.begin i; end = e.end_is i; what = e.what_is i; class = e.class_is i; shape = e.shape_is i })
      ∙ ap (λ k. Some (child_member k link what class shape)) (sym m_is))
