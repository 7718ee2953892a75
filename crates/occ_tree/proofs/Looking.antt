-- Those of one parent, looked through for a name.
use Rattle.std.proofs.Common.{◌≡◌, ◌≢◌, ℕ, ◌<◌, Bool, true, false, eqb, ◌||◌, List, [], ◌∷◌, length, Option, Some, None, refl, sym, ap, ◌∙◌, subst, arith, eqb-true}
use Rattle.std.specs.List.{list_any}
use Rattle.std.specs.Option.{option_map}
use Rattle.row_links.specs.Lists.{IsOn, first_or, row_after}
use Rattle.undo_rows.specs.declared.row.Row.{Row}
use Rattle.undo_rows.specs.Changes.{table_in}
use Rattle.undo_rows.specs.Tables.{AreListed, head_in, head_of}
use Rattle.occ_tree.specs.declared.node.Node.{Node}
use Rattle.occ_tree.specs.Named.{IsNamed}
use Rattle.occ_tree.specs.Nodes.{parent_of}
use Rattle.occ_tree.specs.Standing.{Grove, present_rows, nodes_in, head_for, siblings_in, IsStanding}
use Rattle.occ_tree.proofs.Grown.{on_list, live-live}
use Rattle.occ_tree.proofs.Walked.{from_on, from_first, from_next, first_is_on, next_is_on}

one_head : (p q : Option ℕ) → head_for p ≡ head_for q → p ≡ q
one_head None None e = refl
one_head None (Some y) e = absurd (omega (arith, e))
one_head (Some x) None e = absurd (omega (arith, e))
one_head (Some x) (Some y) e = ap Some (omega (arith, e))

on_tail : (rows : List ℕ) (x y : ℕ) → y ≢ x → IsOn (x ∷ rows) y → IsOn rows y
on_tail rows x y other on = by (eqb y x) refl on
  where
    by : (b : Bool) → eqb y x ≡ b → (b || list_any (eqb y) rows) ≡ true → IsOn rows y
    by true e on = absurd (other (eqb-true y x e))
    by false e on = on

module _ (g : Grove) (listed : AreListed (present_rows g)) (parent : Option ℕ) where
  -- what is on the list has this parent
  pub named_on : (limit x : ℕ) → IsStanding limit (present_rows g) → IsOn (siblings_in (present_rows g) parent) x → (n : Node) × (nodes_in (present_rows g) x ≡ Some n) × (parent_of n ≡ parent)
  named_on limit x stands on =
      let (r, live, head) = (listed.each x 0 (head_for parent)).0 on in
      let here : (present_rows g).row x ≡ Some r = sym (live-live ((table_in g.rows.rows g.rows.families).row x)) ∙ live in
      let own : head_of r 0 ≡ Some (head_for (parent_of r.value)) = ap (λ l. head_in l 0) (stands.heads x r here) in
      let both : Some (head_for (parent_of r.value)) ≡ Some (head_for parent) = sym own ∙ head in
      let heads : head_for (parent_of r.value) ≡ head_for parent = cc in
      (r.value, ap (λ o. option_map (λ (q : Row Node 1). q.value) o) here, one_head (parent_of r.value) parent heads)

  -- what has this parent is on the list
  pub on_named : (limit x : ℕ) (name : List ℕ) → IsStanding limit (present_rows g) → IsNamed (nodes_in (present_rows g)) parent name x → IsOn (siblings_in (present_rows g) parent) x
  on_named limit x name stands (n, at, below, named) =
      subst (λ p. IsOn (siblings_in (present_rows g) p) x) below (on_list (table_in g.rows.rows g.rows.families) limit x n listed stands at)

  module _ (name : List ℕ) where
    -- those of the name are from the next one on
    pub record IsLooking (next : Option ℕ) : Type 0 where
      pub on : (x : ℕ) → next ≡ Some x → IsOn (siblings_in (present_rows g) parent) x
      pub left : (y : ℕ) → IsOn (siblings_in (present_rows g) parent) y → IsNamed (nodes_in (present_rows g)) parent name y → IsOn (from_on next (siblings_in (present_rows g) parent)) y

    pub looking_first : (next : Option ℕ) → next ≡ first_or None (siblings_in (present_rows g) parent) → IsLooking next
    looking_first next is =
        let list = siblings_in (present_rows g) parent in record {
          on = λ x e. first_is_on list x (sym is ∙ e);
          left = λ y on named. subst (λ l. IsOn l y) (sym (ap (λ o. from_on o list) is ∙ from_first list)) on;
        }

    pub looking_next : (x : ℕ) (next : Option ℕ) (n : Node) → IsLooking (Some x) → nodes_in (present_rows g) x ≡ Some n → n.name ≢ name → next ≡ row_after x (siblings_in (present_rows g) parent) → IsLooking next
    looking_next x next n looking at other is =
        let list = siblings_in (present_rows g) parent in
        let behind = from_next list x (listed.once 0 (head_for parent)) (looking.on x refl) in
        record {
          on = λ y e. next_is_on list x y (sym is ∙ e);
          left = λ y on named.
              let differs : y ≢ x = λ same. (let (m, m_at, _, m_name) = named in let both : Some n ≡ Some m = sym at ∙ ap (nodes_in (present_rows g)) (sym same) ∙ m_at in let one : n ≡ m = cc in other (ap (λ (k : Node). k.name) one ∙ m_name)) in
              subst (λ o. IsOn (from_on o list) y) (sym is) (on_tail (from_on (row_after x list) list) x y differs (subst (λ l. IsOn l y) behind (looking.left y on named)));
        }

    -- fewer are left
    pub fewer : (x : ℕ) (next : Option ℕ) → IsLooking (Some x) → next ≡ row_after x (siblings_in (present_rows g) parent)
        → length (from_on next (siblings_in (present_rows g) parent)) < length (from_on (Some x) (siblings_in (present_rows g) parent))
    fewer x next looking is =
        let list = siblings_in (present_rows g) parent in
        let behind = ap length (from_next list x (listed.once 0 (head_for parent)) (looking.on x refl)) in
        let same = ap (λ o. length (from_on o list)) is in
        omega (arith, behind, same)

    pub looked : (limit x : ℕ) → IsStanding limit (present_rows g) → IsLooking None → IsNamed (nodes_in (present_rows g)) parent name x → ⊥
    looked limit x stands looking named =
        let none : IsOn [] x = looking.left x (on_named limit x name stands named) named in
        let no : false ≡ true = none in
        cc
