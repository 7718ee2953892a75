-- The rows of a rule, node after node.
use Rattle.std.proofs.Common.{◌≡◌, ◌∙◌, ℕ, zero, suc, ◌<◌, length, take, arith, true, false, eqb, eqb-true, List, [], ◌∷◌, ◌++◌, Some, None, refl, sym, ap, subst, inl, inr, ◌⊎◌}
use Rattle.std.proofs.lemmas.Bool.{cases_Bool, both_ways}
use Rattle.std.specs.Prelude.{◌||◌, nat_eq, slice_index_or}
use Rattle.std.specs.List.{IsDistinct}
use Rattle.std.proofs.lemmas.Cmp.{nat_eq_equiv}
use Rattle.std.proofs.lemmas.Map.Keys.{IsDistinct-head, IsDistinct-tail}
use Rattle.list_theory.proofs.Elements.{In, each_in}
use Rattle.row_links.specs.Lists.{IsOn}
use Rattle.row_links.proofs.Lists.{IsOn-first, IsOn-append_left, IsOn-append_right, IsOn-append_cases}
use Rattle.undo_rows.specs.declared.row.Row.{Row as TableRow}
use Rattle.decision_rows.specs.declared.row.Pair.{Pair}
use Rattle.occ_tree.specs.Standing.{Kept, present, early}
use Rattle.belief_table.specs.declared.state.Decisions.{Decisions}
use Rattle.belief_net.specs.Adding.{IsEventOf, AddsRuleAt, AddsRule}
use Rattle.belief_table.specs.Decided.{table_of, rule_in, AreUnder, IsNewRow, IsSameRow, AddsRows, KeepsLast}
use Rattle.belief_table.proofs.Marked.{one_row}
use Rattle.belief_table.proofs.Named.{name_stays}

none_some : {X : Type 0} (x : X) → None ≡ Some x → ⊥
none_some x e = cc

pub alone : (y t : ℕ) → IsOn (y ∷ []) t → t ≡ y
alone y t on = elim (cases_Bool (eqb t y)) [ inl same ↦ eqb-true t y same | inr other ↦ (let never : false ≡ true = sym (ap (λ b. b || false) other) ∙ on in cc) ]

in_at : (ys : List ℕ) (k : ℕ) → k < length ys → In (slice_index_or ys k 0) ys
in_at [] k within = absurd (omega (arith, within))
in_at (y ∷ ys) zero within = inl refl
in_at (y ∷ ys) (suc k) within = inr (in_at ys k (omega (arith, within)))

-- what stands at a place of a list without repeats does not stand before
pub not_before : (xs : List ℕ) → IsDistinct nat_eq xs → (i : ℕ) → i < length xs → IsOn (take i xs) (slice_index_or xs i 0) → ⊥
not_before [] once i within on = omega (arith, within)
not_before (x ∷ xs) once zero within on = (let never : false ≡ true = on in cc)
not_before (x ∷ xs) once (suc i) within on =
    let less : i < length xs = omega (arith, within) in
    elim (IsOn-append_cases (x ∷ []) (take i xs) (slice_index_or xs i 0) on) [
      | inl here ↦ (
          let same : slice_index_or xs i 0 ≡ x = alone x (slice_index_or xs i 0) here in
          let other = each_in (λ y. nat_eq x y ≡ false) xs (IsDistinct-head nat_eq x xs once) (slice_index_or xs i 0) (in_at xs i less) in
          both_ways (nat_eq x (slice_index_or xs i 0)) other (ap (nat_eq x) same ∙ nat_eq_equiv.refl x))
      | inr there ↦ not_before xs (IsDistinct-tail nat_eq x xs once) i less there
    ]

module _ (tree : Kept) (rule kind : List ℕ) where
  -- no row is new where all stay
  pub rule_nowhere : (numbers : List ℕ) (d : Decisions) → ((x : ℕ) → IsOn numbers x → IsEventOf tree kind x → ⊥) → AddsRuleAt tree rule kind numbers d d
  rule_nowhere numbers d none = record {
    each = λ i. inl (record { row = refl; waits = refl });
    all = λ x on is. absurd (none x on is);
    apart = λ x i j row other at there. absurd (none_some row (sym at.free ∙ at.there));
  }

  -- a row at an event
  pub rule_here : (x : ℕ) (old new : Decisions) → IsEventOf tree kind x → AddsRows (rule ∷ []) x (early (present tree) x) old new → AddsRuleAt tree rule kind (x ∷ []) old new
  rule_here x old new is adds = record {
    each = λ i. elim (adds.each i) [
      | inl same ↦ inl same
      | inr added ↦ inr (x, added.0, IsOn-first x [], is, added.1, one added.2)
    ];
    all = λ y on event.
        let same = alone x y on in
        let (i, row, new_row, named) = adds.all rule (inl refl) in
        (i, row, subst (λ z. IsNewRow z (early (present tree) z) old new i row) (sym same) new_row, named);
    apart = λ y i j row other at there. elim (adds.each i) [
      | inl same ↦ absurd (none_some row (sym at.free ∙ sym same.row ∙ at.there))
      | inr added ↦ elim (adds.each j) [
        | inl same ↦ absurd (none_some other (sym there.free ∙ sym same.row ∙ there.there))
        | inr more ↦ adds.apart i j added.0 more.0 added.1 more.1 (one added.2 ∙ sym (one more.2))
      ]
    ];
  }
    where
      one : {r : List ℕ} → In r (rule ∷ []) → r ≡ rule
      one (inl is) = sym is
      one (inr none) = absurd none

  module _ (s : _) (front : List ℕ) (y : ℕ) (old mid new : Decisions) (fresh : IsOn front y → ⊥) (under : AreUnder s mid) (last : KeepsLast mid new)
      (p : AddsRuleAt tree rule kind front old mid) (q : AddsRuleAt tree rule kind (y ∷ []) mid new) where
    stays : (i : ℕ) (row : TableRow Pair 8) → (table_of mid).row i ≡ Some row → IsSameRow mid new i
    stays i row at = elim (q.each i) [
      | inl same ↦ same
      | inr added ↦ absurd (none_some row (sym added.4.free ∙ at))
    ]

    from_first : (x i : ℕ) (row : TableRow Pair 8) → IsNewRow x (early (present tree) x) old mid i row → IsNewRow x (early (present tree) x) old new i row × (rule_in new row ≡ rule_in mid row)
    from_first x i row at =
        let same = stays i row at.there in (
          record { free = at.free; there = same.row ∙ at.there; at_event = at.at_event; undecided = at.undecided; waits = same.waits ∙ at.waits },
          name_stays mid.rules new.rules row.value.rule last.rules (under.named i row at.there),
        )

    from_then : (x i : ℕ) (row : TableRow Pair 8) → IsNewRow x (early (present tree) x) mid new i row → IsNewRow x (early (present tree) x) old new i row
    from_then x i row at = elim (p.each i) [
      | inl same ↦ record { free = sym same.row ∙ at.free; there = at.there; at_event = at.at_event; undecided = at.undecided; waits = at.waits }
      | inr added ↦ absurd (none_some added.1 (sym at.free ∙ added.4.there))
    ]

    -- a new row is one of the first, or the last
    parted : (x i : ℕ) (row : TableRow Pair 8) → IsNewRow x (early (present tree) x) old new i row
        → (IsNewRow x (early (present tree) x) old mid i row × IsOn front x) ⊎ (IsNewRow x (early (present tree) x) mid new i row × (x ≡ y))
    parted x i row at = elim (p.each i) [
      | inl same ↦ elim (q.each i) [
        | inl again ↦ absurd (none_some row (sym at.free ∙ sym same.row ∙ sym again.row ∙ at.there))
        | inr added ↦ (
            let one = one_row (table_of new) i added.1 row added.4.there at.there in
            let here : x ≡ y = sym at.at_event ∙ ap (λ (z : TableRow Pair 8). z.value.trigger) (sym one) ∙ added.4.at_event ∙ alone y added.0 added.2 in
            inr (record { free = same.row ∙ at.free; there = at.there; at_event = at.at_event; undecided = at.undecided; waits = at.waits }, here))
      ]
      | inr added ↦ (
          let (then_new, _) = from_first added.0 i added.1 added.4 in
          let one = one_row (table_of new) i added.1 row then_new.there at.there in
          let here : added.0 ≡ x = sym added.4.at_event ∙ ap (λ (z : TableRow Pair 8). z.value.trigger) one ∙ at.at_event in
          inl (subst (λ z. IsNewRow z (early (present tree) z) old mid i row) here (subst (IsNewRow added.0 (early (present tree) added.0) old mid i) one added.4), subst (IsOn front) here added.2))
    ]

    pub rule_next : AddsRuleAt tree rule kind (front ++ y ∷ []) old new
    rule_next = record {
      each = λ i. elim (p.each i) [
        | inl same ↦ elim (q.each i) [
          | inl again ↦ inl (record { row = again.row ∙ same.row; waits = again.waits ∙ same.waits })
          | inr added ↦ inr (added.0, added.1, IsOn-append_right front (y ∷ []) added.0 added.2, added.3, from_then added.0 i added.1 added.4, added.5)
        ]
        | inr added ↦ (let h = from_first added.0 i added.1 added.4 in inr (added.0, added.1, IsOn-append_left front (y ∷ []) added.0 added.2, added.3, h.0, h.1 ∙ added.5))
      ];
      all = λ x on is. elim (IsOn-append_cases front (y ∷ []) x on) [
        | inl there ↦ (let (i, row, at, named) = p.all x there is in let h = from_first x i row at in (i, row, h.0, h.1 ∙ named))
        | inr here ↦ (let (i, row, at, named) = q.all x here is in (i, row, from_then x i row at, named))
      ];
      apart = λ x i j row other at there. elim (parted x i row at) [
        | inl a ↦ elim (parted x j other there) [
          | inl b ↦ p.apart x i j row other a.0 b.0
          | inr b ↦ absurd (fresh (subst (IsOn front) b.1 a.1))
        ]
        | inr a ↦ elim (parted x j other there) [
          | inl b ↦ absurd (fresh (subst (IsOn front) a.1 b.1))
          | inr b ↦ q.apart x i j row other a.0 b.0
        ]
      ];
    }

  pub rule_everywhere : (numbers : List ℕ) (old new : Decisions) → ((x : ℕ) → IsEventOf tree kind x → IsOn numbers x) → AddsRuleAt tree rule kind numbers old new → AddsRule tree rule kind old new
  rule_everywhere numbers old new all a = record {
    each = λ i. elim (a.each i) [
      | inl same ↦ inl same
      | inr added ↦ inr (added.0, added.1, added.3, added.4, added.5)
    ];
    all = λ x is. a.all x (all x is) is;
    apart = a.apart;
  }
