-- Tables of nodes of which some are gone with all below them.
use Rattle.std.proofs.Common.{◌≡◌, ℕ, ◌+◌, false, eqb, List, [], ◌∷◌, ◌++◌, Option, Some, None, IsSome, refl, sym, ap, ◌∙◌, subst, inl, inr, option_map, eqb-true}
use Rattle.std.specs.List.{list_any}
use Rattle.std.specs.Prelude.{IfSome, MatchOption, pos}
use Rattle.std.specs.Option.{option_map_or}
use Rattle.std.proofs.lemmas.Bool.{cases_eq, cases_Bool, or_cases, false≢true, both_ways, false_from_ne_true}
use Rattle.std.proofs.lemmas.List.{append-nil}
use Rattle.row_links.specs.Lists.{IsOn, AreOnce, without}
use Rattle.row_links.proofs.Lists.{IsOn-first, IsOn-rest, IsOn-append_right, without-none, without-new, AreApart-from_once}
use Rattle.undo_rows.specs.declared.row.Row.{Row}
use Rattle.undo_rows.specs.Tables.{Table}
use Rattle.undo_rows.proofs.Listing.{AreOnce-without, IsOn-without}
use Rattle.undo_rows.proofs.Written.{with_row-same, with_row-other}
use Rattle.tmm_model.specs.declared.token.TokenRow.{TokenRow}
use Rattle.occ_tree.specs.Below.{IsBelow, IsRightBelow, IsOnWay, LeadOn, ListsBelow, without_rows}
use Rattle.occ_tree.specs.declared.node.Node.{Node}
use Rattle.occ_tree.specs.declared.node.Above.{Above}
use Rattle.spots.specs.declared.spot.Spot.{Spot}
use Rattle.occ_tree.specs.Edits.{Shrinks}
use Rattle.occ_tree.specs.Nodes.{Nodes, parent_of, way_to, member_of, forest_in, HasParent, ArePlaced}
use Rattle.occ_tree.specs.Standing.{nodes_in, siblings_in, head_for, AreKept}
use Rattle.occ_tree.specs.Tokens.{AreTokensBut}
use Rattle.occ_tree.proofs.Beneath.{below_from_way, way_from_below}
use Rattle.occ_tree.proofs.Fewer.{member_kept, kept_fewer}
use Rattle.occ_tree.proofs.Grown.{no_node_at}
use Rattle.occ_tree.proofs.OnWays.{on_own, on_further, on_way_cases, way_leads}
use Rattle.occ_tree.proofs.Placing.{have_parents}
use Rattle.occ_tree.proofs.TokenLists.{some_is}
use Rattle.occ_tree.proofs.Ways.{HaveParents}

-- ---- rows and lists

rows_gone : (numbers : List ℕ) (t : Table Node 1) (y : ℕ) → IsOn numbers y → (without_rows numbers t).row y ≡ None
rows_gone [] t y on = absurd (false≢true on)
rows_gone (x ∷ numbers) t y on = elim (cases_eq y x) [
  | inl same ↦ subst (λ z. (without_rows (x ∷ numbers) t).row z ≡ None) (sym same) (with_row-same (without_rows numbers t).row x None)
  | inr other ↦ with_row-other (without_rows numbers t).row x None y other ∙ elim (or_cases (eqb y x) (list_any (eqb y) numbers) on) [
    | inl same ↦ absurd (other (eqb-true y x same))
    | inr rest ↦ rows_gone numbers t y rest
  ]
]

rows_left : (numbers : List ℕ) (t : Table Node 1) (y : ℕ) → (IsOn numbers y → ⊥) → (without_rows numbers t).row y ≡ t.row y
rows_left [] t y free = refl
rows_left (x ∷ numbers) t y free =
    with_row-other (without_rows numbers t).row x None y (λ same. free (subst (IsOn (x ∷ numbers)) (sym same) (IsOn-first x numbers)))
    ∙ rows_left numbers t y (λ on. free (IsOn-rest y x numbers on))

no_on : (x : ℕ) (l : List ℕ) → (IsOn l x → ⊥) → list_any (eqb x) l ≡ false
no_on x l free = false_from_ne_true (list_any (eqb x) l) free

-- a list on which none of them stands
list_kept : (numbers : List ℕ) (t : Table Node 1) (h : ℕ) → ((z : ℕ) → IsOn numbers z → IsOn (t.list 0 h) z → ⊥) → (without_rows numbers t).list 0 h ≡ t.list 0 h
list_kept [] t h apart = refl
list_kept (x ∷ numbers) t h apart =
    ap (without x) (list_kept numbers t h (λ z on. apart z (IsOn-rest z x numbers on)))
    ∙ without-none x (t.list 0 h) (no_on x (t.list 0 h) (apart x (IsOn-first x numbers)))

-- a list on which x alone of them may stand
list_without : (x : ℕ) (numbers : List ℕ) (t : Table Node 1) (h : ℕ) → AreOnce numbers → IsOn numbers x → ((z : ℕ) → IsOn numbers z → IsOn (t.list 0 h) z → z ≡ x) → (without_rows numbers t).list 0 h ≡ without x (t.list 0 h)
list_without x [] t h once on alone = absurd (false≢true on)
list_without x (y ∷ numbers) t h (new, once) on alone = elim (cases_eq x y) [
  | inl same ↦
      let none : (z : ℕ) → IsOn numbers z → IsOn (t.list 0 h) z → ⊥ =
      λ z z_on there. both_ways (list_any (eqb y) numbers) new (subst (IsOn numbers) (alone z (IsOn-rest z y numbers z_on) there ∙ same) z_on) in
      ap (without y) (list_kept numbers t h none) ∙ ap (λ z. without z (t.list 0 h)) (sym same)
  | inr other ↦
      let rest : IsOn numbers x = elim (or_cases (eqb x y) (list_any (eqb x) numbers) on) [ inl same ↦ absurd (other (eqb-true x y same)) | inr there ↦ there ] in
      let apart : IsOn (without x (t.list 0 h)) y → ⊥ = λ there. other (sym (alone y (IsOn-first y numbers) (IsOn-without x (t.list 0 h) y there))) in
      ap (without y) (list_without x numbers t h once rest (λ z z_on. alone z (IsOn-rest z y numbers z_on))) ∙ without-none y (without x (t.list 0 h)) (no_on y (without x (t.list 0 h)) apart)
]

once_left : (numbers : List ℕ) (t : Table Node 1) (h : ℕ) → AreOnce (t.list 0 h) → AreOnce ((without_rows numbers t).list 0 h)
once_left [] t h once = once
once_left (x ∷ numbers) t h once = AreOnce-without x ((without_rows numbers t).list 0 h) (once_left numbers t h once)

left_on : (numbers : List ℕ) (t : Table Node 1) (h z : ℕ) → AreOnce (t.list 0 h) → IsOn ((without_rows numbers t).list 0 h) z → IsOn (t.list 0 h) z × (IsOn numbers z → ⊥)
left_on [] t h z once on = (on, false≢true)
left_on (x ∷ numbers) t h z once on =
    let list = (without_rows numbers t).list 0 h in
    let (there, free) = left_on numbers t h z once (IsOn-without x list z on) in (
      there,
      λ gone. elim (or_cases (eqb z x) (list_any (eqb z) numbers) gone) [
        | inl same ↦ both_ways (list_any (eqb x) (without x list)) (without-new x list (once_left numbers t h once)) (subst (IsOn (without x list)) (eqb-true z x same) on)
        | inr rest ↦ free rest
      ],
    )

none_on : (l : List ℕ) → ((z : ℕ) → IsOn l z → ⊥) → l ≡ []
none_on [] none = refl
none_on (x ∷ l) none = absurd (none x (IsOn-first x l))

-- ---- the last of them goes

lead_split : (node : Nodes) (front : List ℕ) (y : ℕ) (back : List ℕ) → LeadOn node (front ++ y ∷ back) [] → (z : ℕ) → IsRightBelow node y z → IsOn back z
lead_split node [] y back (here, lead) z below = subst (λ l. IsOn l z) (append-nil back) (here z below)
lead_split node (w ∷ front) y back (here, lead) z below = lead_split node front y back lead z below

module _ (t u : Table Node 1) (x : ℕ) (numbers front : List ℕ) (y : ℕ) (back : List ℕ) (below : ListsBelow (nodes_in t) x numbers) (split : numbers ≡ front ++ y ∷ back) (is : u ≡ without_rows back t) where
  row_is : (z : ℕ) → u.row z ≡ (without_rows back t).row z
  row_is z = ap (λ (v : Table Node 1). v.row z) is

  pub last_live : IsSome (nodes_in u y)
  last_live =
      let (n, at) = way_leads (nodes_in t) x y ((below.each y).0 (subst (λ l. IsOn l y) (sym split) (IsOn-append_right front (y ∷ back) y (IsOn-first y back)))) in
      let (new, rest) = (AreApart-from_once front (y ∷ back) (subst AreOnce split below.once)).second in
      let stays = row_is y ∙ rows_left back t y (both_ways (list_any (eqb y) back) new) in
      some_is (nodes_in u y) n (ap (option_map (λ (r : Row Node 1). r.value)) stays ∙ at)

  pub last_leaf : (z : ℕ) → IsRightBelow (nodes_in u) y z → ⊥
  last_leaf z (n, at, right) = elim (cases_Bool (list_any (eqb z) back)) [
    | inl on ↦ let both : None ≡ Some n = sym (no_node_at u z (row_is z ∙ rows_gone back t z on)) ∙ at in cc
    | inr off ↦
        let stays = row_is z ∙ rows_left back t z (both_ways (list_any (eqb z) back) off) in
        let was : nodes_in t z ≡ Some n = ap (option_map (λ (r : Row Node 1). r.value)) (sym stays) ∙ at in
        both_ways (list_any (eqb z) back) off (lead_split (nodes_in t) front y back (subst (λ l. LeadOn (nodes_in t) l []) split below.lead_on) z (n, was, right))
  ]

-- ---- all are gone

module _ (t u : Table Node 1) (x : ℕ) (numbers : List ℕ) (below : ListsBelow (nodes_in t) x numbers) (is : u ≡ without_rows numbers t) (placed : ArePlaced (nodes_in t)) where
  row_at : (y : ℕ) → u.row y ≡ (without_rows numbers t).row y
  row_at y = ap (λ (v : Table Node 1). v.row y) is

  node_gone : (y : ℕ) → IsOn numbers y → nodes_in u y ≡ None
  node_gone y on = no_node_at u y (row_at y ∙ rows_gone numbers t y on)

  node_stays : (y : ℕ) → (IsOn numbers y → ⊥) → nodes_in u y ≡ nodes_in t y
  node_stays y free = ap (option_map (λ (r : Row Node 1). r.value)) (row_at y ∙ rows_left numbers t y free)

  not_gone : (y : ℕ) (n : Node) → nodes_in u y ≡ Some n → IsOn numbers y → ⊥
  not_gone y n at on = let both : None ≡ Some n = sym (node_gone y on) ∙ at in cc

  fewer : (y : ℕ) (n : Node) → nodes_in u y ≡ Some n → nodes_in t y ≡ Some n
  fewer y n at = sym (node_stays y (not_gone y n at)) ∙ at

  pub parents_kept : HaveParents (nodes_in u)
  parents_kept y n at = by n.above refl (have_parents (nodes_in t) placed y n (fewer y n at))
    where
      by : (o : Option Above) → n.above ≡ o → MatchOption o (n.depth ≡ 0) (HasParent (nodes_in t) n) → MatchOption o (n.depth ≡ 0) (HasParent (nodes_in u) n)
      by None above level = level
      by (Some up) above (p, p_at, deep, begin) =
          let right : IsRightBelow (nodes_in t) up.parent y = (n, fewer y n at, ap (option_map (λ (c : Above). c.parent)) above) in
          let free : IsOn numbers up.parent → ⊥ = λ on. not_gone y n at ((below.each y).1 (on_further (nodes_in t) (have_parents (nodes_in t) placed) x up.parent y right ((below.each up.parent).0 on))) in
          (p, node_stays up.parent free ∙ p_at, deep, begin)

  pub kept_left : (names : List (List ℕ)) (rows left : ℕ → List (TokenRow Spot)) → AreKept names (nodes_in t) rows → AreTokensBut (nodes_in u) left [] → AreKept names (nodes_in u) left
  kept_left names rows left kept tokens = kept_fewer (nodes_in u) (nodes_in t) fewer parents_kept placed names rows left kept tokens

  member_stays : (y : ℕ) → (IsOn numbers y → ⊥) → forest_in (nodes_in u) y ≡ forest_in (nodes_in t) y
  member_stays y free = by (nodes_in u y) refl
    where
      by : (o : Option Node) → nodes_in u y ≡ o → forest_in (nodes_in u) y ≡ forest_in (nodes_in t) y
      by (Some n) at = member_kept (nodes_in u) (nodes_in t) fewer parents_kept y n at
      by None none = ap (option_map (member_of (way_to (nodes_in u) y))) none ∙ ap (option_map (member_of (way_to (nodes_in t) y))) (sym none ∙ node_stays y free)

  off : (y : ℕ) → (IsBelow (forest_in (nodes_in t)) x y → ⊥) → IsOn numbers y → ⊥
  off y free on = free (below_from_way (nodes_in t) placed x y ((below.each y).0 on))

  on_below : (y : ℕ) → IsBelow (forest_in (nodes_in t)) x y → IsOn numbers y
  on_below y b = (below.each y).1 (way_from_below (nodes_in t) placed x y b)

  list_is : (h : ℕ) → u.list 0 h ≡ (without_rows numbers t).list 0 h
  list_is h = ap (λ (v : Table Node 1). v.list 0 h) is

  module _ (n : Node) (at : nodes_in t x ≡ Some n) (siblings : (parent : Option ℕ) (y : ℕ) → IsOn (siblings_in t parent) y → (q : Node) × (nodes_in t y ≡ Some q) × (parent_of q ≡ parent)) (once : (h : ℕ) → AreOnce (t.list 0 h)) where
    x_on : IsOn numbers x
    x_on = (below.each x).1 (on_own (nodes_in t) x n at)

    lists_left : (parent : Option ℕ) → IfSome parent (λ p. IsBelow (forest_in (nodes_in t)) x p → ⊥) → siblings_in u parent ≡ without x (siblings_in t parent)
    lists_left parent free = list_is (head_for parent) ∙ list_without x numbers t (head_for parent) below.once x_on alone
      where
        under : (o : Option ℕ) → IfSome o (λ p. IsBelow (forest_in (nodes_in t)) x p → ⊥) → (p : ℕ) → o ≡ Some p → IsOnWay (nodes_in t) x p → ⊥
        under None free p is up = cc
        under (Some q) free p is up = let same : q ≡ p = cc in free (below_from_way (nodes_in t) placed x q (subst (IsOnWay (nodes_in t) x) (sym same) up))

        alone : (z : ℕ) → IsOn numbers z → IsOn (siblings_in t parent) z → z ≡ x
        alone z on there =
            let (q, q_at, right) = siblings parent z there in
            elim (on_way_cases (nodes_in t) (have_parents (nodes_in t) placed) x z q q_at ((below.each z).0 on)) [
              | inl same ↦ sym same
              | inr (p, p_is, up) ↦ absurd (under parent free p (sym right ∙ p_is) up)
            ]

    lists_bare : (p : ℕ) → IsBelow (forest_in (nodes_in t)) x p → siblings_in u (Some p) ≡ []
    lists_bare p b = list_is (p + 1) ∙ none_on ((without_rows numbers t).list 0 (p + 1)) none
      where
        none : (z : ℕ) → IsOn ((without_rows numbers t).list 0 (p + 1)) z → ⊥
        none z on =
            let (there, free) = left_on numbers t (p + 1) z (once (p + 1)) on in
            free ((below.each z).1 (on_further (nodes_in t) (have_parents (nodes_in t) placed) x p z (siblings (Some p) z there) (way_from_below (nodes_in t) placed x p b)))

    pub shrinks : (a b : List ℕ → List (TokenRow Spot)) → Shrinks (record { rows = t; tokens = a }) (record { rows = u; tokens = b }) x
    shrinks a b = record {
      gone = λ y bel. ap (option_map (member_of (way_to (nodes_in u) y))) (node_gone y (on_below y bel));
      others = λ y free. member_stays y (off y free);
      dates = λ y free. ap (λ o. option_map_or (λ (q : Node). q.early) o (pos 0)) (node_stays y (off y free));
      lists = lists_left;
      bare = lists_bare;
    }
