-- Lists of what is below a node, as they grow.
use Rattle.std.proofs.Common.{◌≡◌, ℕ, zero, suc, eqb, false, ◌<◌, ◌≤◌, List, [], ◌∷◌, ◌++◌, length, Some, None, IsSome, refl, sym, ap, ◌∙◌, subst, inl, inr, arith, slice_index_or, ◌⊎◌, ◌↔◌, eqb-true, eq-eqb, ne_eqb}
use Rattle.std.specs.List.{AllByRecursion, IsDistinct, list_any}
use Rattle.std.proofs.lemmas.Bool.{or_cases, or_parts, false≢true, both_ways, cond-true, cond-false}
use Rattle.std.proofs.lemmas.List.{append_assoc, append-nil, length-append}
use Rattle.std.proofs.lemmas.Map.Steps.{length-le_from_distinct_below}
use Rattle.row_links.specs.Lists.{IsOn, AreOnce, first_or, row_after}
use Rattle.row_links.proofs.Lists.{IsOn-first, IsOn-rest, IsOn-append_left, IsOn-append_right, IsOn-append_cases, AreApart-from_once, once_from_AreApart}
use Rattle.occ_tree.specs.Below.{IsRightBelow, IsOnWay, LeadOn, AreTops, ListAllBelow, ListsBelow}
use Rattle.occ_tree.specs.declared.node.Node.{Node}
use Rattle.occ_tree.specs.Nodes.{Nodes, parent_of}
use Rattle.occ_tree.proofs.Grown.{some_node}
use Rattle.occ_tree.proofs.InOrder.{on_one}
use Rattle.occ_tree.proofs.Ways.{HaveParents}
use Rattle.occ_tree.proofs.OnWays.{on_own, on_further, on_way_cases, parent_there, not_above_itself, way_leads}

-- ---- numbers that stand once

apart_from : (x : ℕ) (rows : List ℕ) → list_any (eqb x) rows ≡ false → AllByRecursion (λ y. eqb x y ≡ false) rows
apart_from x [] none = tt
apart_from x (y ∷ rows) none = let (first, rest) = or_parts (eqb x y) (list_any (eqb x) rows) none in (first, apart_from x rows rest)

pub distinct_from_once : (rows : List ℕ) → AreOnce rows → IsDistinct eqb rows
unfolding IsDistinct
distinct_from_once [] once = tt
distinct_from_once (x ∷ rows) (new, once) = (apart_from x rows new, distinct_from_once rows once)

pub few_from_once : (rows : List ℕ) (limit : ℕ) → AreOnce rows → ((y : ℕ) → IsOn rows y → y < limit) → length rows ≤ limit
few_from_once rows limit once below = length-le_from_distinct_below rows limit (distinct_from_once rows once) below

-- ---- the next one on a list

pub after_front : (front : List ℕ) (y : ℕ) (rest : List ℕ) → AreOnce (front ++ y ∷ rest) → row_after y (front ++ y ∷ rest) ≡ first_or None rest
after_front [] y rest once = cond-true (eqb y y) (first_or None rest) (row_after y rest) (eq-eqb y y refl)
after_front (z ∷ front) y rest (new, once) =
    let other : eqb y z ≡ false = ne_eqb y z (λ same. both_ways (list_any (eqb z) (front ++ y ∷ rest)) new (subst (IsOn (front ++ y ∷ rest)) same (IsOn-append_right front (y ∷ rest) y (IsOn-first y rest)))) in
    cond-false (eqb y z) (first_or None (front ++ y ∷ rest)) (row_after y (front ++ y ∷ rest)) other ∙ after_front front y rest once

-- ---- a list as it grows

lead_more : (node : Nodes) (first : List ℕ) (h : ℕ) (rest more : List ℕ) → LeadOn node first (h ∷ rest) → ((z : ℕ) → IsRightBelow node h z → IsOn (rest ++ more) z) → LeadOn node (first ++ h ∷ []) (rest ++ more)
lead_more node [] h rest more lead own = (own, tt)
lead_more node (y ∷ first) h rest more (here, lead) own = (
  λ z below. subst (λ l. IsOn l z) (append_assoc first (h ∷ rest) more ∙ sym (append_assoc first (h ∷ []) (rest ++ more))) (IsOn-append_left (first ++ h ∷ rest) more z (here z below)),
  lead_more node first h rest more lead own,
)

pub lead_at : (node : Nodes) (first others : List ℕ) → LeadOn node first others → (p y : ℕ) → IsOn first p → IsRightBelow node p y → IsOn (first ++ others) y
lead_at node [] others lead p y on below = absurd (false≢true on)
lead_at node (q ∷ first) others (here, lead) p y on below = elim (or_cases (eqb p q) (list_any (eqb p) first) on) [
  | inl same ↦ IsOn-rest y q (first ++ others) (here y (subst (λ z. IsRightBelow node z y) (eqb-true p q same) below))
  | inr rest ↦ IsOn-rest y q (first ++ others) (lead_at node first others lead p y rest below)
]

-- the numbers are of the tops and of nodes below them, all that is right below the first ones among
-- them
pub record Gathers (node : Nodes) (tops first others : List ℕ) : Type 0 where
  pub start : (x : ℕ) → IsOn tops x → IsOn (first ++ others) x
  pub each : (y : ℕ) → IsOn (first ++ others) y → (x : ℕ) × IsOn tops x × IsOnWay node x y
  pub once : AreOnce (first ++ others)
  pub lead_on : LeadOn node first others
  pub above : (y : ℕ) → IsOn (first ++ others) y → IsOn tops y ⊎ ((p : ℕ) × IsOn first p × IsRightBelow node p y)

pub gathers_start : (node : Nodes) (tops : List ℕ) → AreTops node tops → Gathers node tops [] tops
gathers_start node tops are = record {
  start = λ x on. on;
  each = λ y on. let (n, at) = some_node node y (are.live y on) in (y, on, on_own node y n at);
  once = are.once;
  lead_on = tt;
  above = λ y on. inl on;
}

-- a node alone
pub one_top : (node : Nodes) → HaveParents node → (x : ℕ) → IsSome (node x) → AreTops node (x ∷ [])
one_top node parents x live = record {
  live = λ y on. subst (λ z. IsSome (node z)) (sym (on_one y x on)) live;
  once = (refl, tt);
  apart = λ w y z w_on z_on way right. not_above_itself node parents y x (subst (IsRightBelow node y) (on_one z x z_on) right) (subst (λ v. IsOnWay node v y) (on_one w x w_on) way);
}

module _ (node : Nodes) (parents : HaveParents node) (tops : List ℕ) (are : AreTops node tops) where
  one_parent : (p q y : ℕ) → IsRightBelow node p y → IsRightBelow node q y → p ≡ q
  one_parent p q y (m, m_at, m_below) (n, n_at, n_below) =
      let both : Some m ≡ Some n = sym m_at ∙ n_at in
      let same : m ≡ n = cc in
      let parents_same : Some p ≡ Some q = sym m_below ∙ ap parent_of same ∙ n_below in
      cc

  pub gathers_more : (first : List ℕ) (h : ℕ) (rest children : List ℕ) → AreOnce children → ((z : ℕ) → IsOn children z ↔ IsRightBelow node h z) → Gathers node tops first (h ∷ rest) → Gathers node tops (first ++ h ∷ []) (rest ++ children)
  gathers_more first h rest children once children_are g = record {
    start = λ x on. subst (λ l. IsOn l x) all (IsOn-append_left (first ++ h ∷ rest) children x (g.start x on));
    each = λ y on. elim (parts y on) [
      | inl old ↦ g.each y old
      | inr new ↦ let (x, x_on, way) = g.each h h_on in (x, x_on, on_further node parents x h y ((children_are y).0 new) way)
    ];
    once = subst AreOnce all (once_from_AreApart (first ++ h ∷ rest) children (record { first = g.once; second = once; apart = λ z old new. apart z old ((children_are z).0 new) }));
    lead_on = lead_more node first h rest children g.lead_on (λ z below. IsOn-append_right rest children z ((children_are z).1 below));
    above = λ y on. elim (parts y on) [
      | inl old ↦ elim (g.above y old) [
        | inl top ↦ inl top
        | inr (p, p_on, below) ↦ inr (p, IsOn-append_left first (h ∷ []) p p_on, below)
      ]
      | inr new ↦ inr (h, IsOn-append_right first (h ∷ []) h (IsOn-first h []), (children_are y).0 new)
    ];
  }
    where
      all : (first ++ h ∷ rest) ++ children ≡ (first ++ h ∷ []) ++ (rest ++ children)
      all = append_assoc first (h ∷ rest) children ∙ sym (append_assoc first (h ∷ []) (rest ++ children))

      parts : (y : ℕ) → IsOn ((first ++ h ∷ []) ++ (rest ++ children)) y → IsOn (first ++ h ∷ rest) y ⊎ IsOn children y
      parts y on = IsOn-append_cases (first ++ h ∷ rest) children y (subst (λ l. IsOn l y) (sym all) on)

      h_on : IsOn (first ++ h ∷ rest) h
      h_on = IsOn-append_right first (h ∷ rest) h (IsOn-first h rest)

      -- what is right below h was not there
      apart : (z : ℕ) → IsOn (first ++ h ∷ rest) z → IsRightBelow node h z → ⊥
      apart z old below = elim (g.above z old) [
        | inl top ↦ let (x, x_on, way) = g.each h h_on in are.apart x h z x_on top way below
        | inr (p, p_on, p_below) ↦ (AreApart-from_once first (h ∷ rest) g.once).apart h (subst (IsOn first) (one_parent p h z p_below below) p_on) (IsOn-first h rest)
      ]

  -- all below the tops is there at the end
  module _ (numbers : List ℕ) (g : Gathers node tops numbers []) where
    whole : numbers ++ [] ≡ numbers
    whole = append-nil numbers

    all_below : (x : ℕ) → IsOn tops x → (d y : ℕ) (n : Node) → node y ≡ Some n → n.depth ≡ d → IsOnWay node x y → IsOn numbers y
    all_below x top zero y n at deep on = by (on_way_cases node parents x y n at on)
      where
        by : (x ≡ y) ⊎ ((p : ℕ) × (parent_of n ≡ Some p) × IsOnWay node x p) → IsOn numbers y
        by (inl same) = subst (IsOn numbers) same (subst (λ l. IsOn l x) whole (g.start x top))
        by (inr (p, below, up)) = let (q, q_at, more) = parent_there node parents p y n at below in absurd (omega (arith, deep, more))
    all_below x top (suc d) y n at deep on = by (all_below x top d) (on_way_cases node parents x y n at on)
      where
        by : ((z : ℕ) (q : Node) → node z ≡ Some q → q.depth ≡ d → IsOnWay node x z → IsOn numbers z) → (x ≡ y) ⊎ ((p : ℕ) × (parent_of n ≡ Some p) × IsOnWay node x p) → IsOn numbers y
        by again (inl same) = subst (IsOn numbers) same (subst (λ l. IsOn l x) whole (g.start x top))
        by again (inr (p, below, up)) =
            let (q, q_at, more) = parent_there node parents p y n at below in
            subst (λ l. IsOn l y) whole (lead_at node numbers [] g.lead_on p y (again p q q_at (omega (arith, deep, more)) up) (n, at, below))

    pub list_all : length numbers ≤ 4294967295 → ListAllBelow node tops numbers
    list_all few = record {
      each = λ y. (
        λ on. g.each y (subst (λ l. IsOn l y) (sym whole) on),
        λ (x, top, on). let (n, at) = way_leads node x y on in all_below x top n.depth y n at refl on,
      );
      once = subst AreOnce whole g.once;
      lead_on = g.lead_on;
      few = few;
    }

-- all below a node alone
pub lists_one : (node : Nodes) (x : ℕ) (numbers : List ℕ) → ListAllBelow node (x ∷ []) numbers → ListsBelow node x numbers
lists_one node x numbers all = record {
  each = λ y. (
    λ on. let (z, top, way) = (all.each y).0 on in subst (λ w. IsOnWay node w y) (on_one z x top) way,
    λ way. (all.each y).1 (x, IsOn-first x [], way),
  );
  once = all.once;
  lead_on = all.lead_on;
  few = all.few;
}

-- ---- places on a list

at_front : (first : List ℕ) (h : ℕ) (rest : List ℕ) (d : ℕ) → slice_index_or (first ++ h ∷ rest) (length first) d ≡ h
at_front [] h rest d = refl
at_front (y ∷ first) h rest d = at_front first h rest d

-- what stands at a place is the first of what follows
pub item_at : (numbers first : List ℕ) (h : ℕ) (rest : List ℕ) (i item : ℕ) → numbers ≡ first ++ h ∷ rest → length first ≡ i → item ≡ slice_index_or numbers i item → item ≡ h
item_at numbers first h rest i item is long at = at ∙ (λ j. slice_index_or (is j) (sym long j) item) ∙ at_front first h rest item

pub first_split : (l : List ℕ) (y : ℕ) → first_or None l ≡ Some y → (rest : List ℕ) × (l ≡ y ∷ rest)
first_split [] y is = absurd (cc)
first_split (z ∷ l) y is = let same : z ≡ y = cc in (l, λ i. same i ∷ l)

pub rest_split : (first others : List ℕ) → length first < length (first ++ others) → (h : ℕ) × (rest : List ℕ) × (others ≡ h ∷ rest)
rest_split first [] within = absurd (let same : length (first ++ []) ≡ length first = ap length (append-nil first) in omega (arith, within, same))
rest_split first (h ∷ rest) within = (h, rest, refl)

pub rest_none : (first others : List ℕ) → length (first ++ others) ≤ length first → others ≡ []
rest_none first [] past = refl
rest_none first (h ∷ rest) past = absurd (let long = length-append first (h ∷ rest) in let all : length (h ∷ rest) ≡ suc (length rest) = refl in omega (arith, past, long, all))
