-- Lists after a row more, or one less.
use Rattle.std.proofs.Common.{◌≡◌, ◌≢◌, ℕ, Bool, true, false, cond, eqb, List, [], ◌∷◌, ◌++◌, Option, Some, None, refl, sym, ap, ◌∙◌, subst, inl, inr, eq-eqb, ne_eqb, eqb-true, ◌↔◌, option_map}
use Rattle.std.specs.List.{list_any}
use Rattle.std.proofs.lemmas.Bool.{cases_eq, cases_Bool, or_cases, cond-true, cond-false, both_ways, false_from_ne_true, false≢true}
use Rattle.row_links.specs.Lists.{IsOn, AreOnce, without}
use Rattle.row_links.proofs.Lists.{part, AreApart-from_once, once_from_AreApart, IsOn-first, IsOn-rest, IsOn-append_left, IsOn-append_right, IsOn-append_cases, without-none, without-new}
use Rattle.undo_rows.specs.declared.row.Row.{Row}
use Rattle.undo_rows.specs.declared.change.Change.{Change}
use Rattle.undo_rows.specs.declared.change.Change.TheVariants.{Entered, Linked, Unlinked, Replaced, Removed}
use Rattle.undo_rows.specs.Tables.{Table, AreListed, StandsUnder, live, live_table, with_row, head_of, is_head, with_new, without_row}
use Rattle.undo_rows.specs.Changes.{before, undone}
use Rattle.undo_rows.proofs.Written.{row_by}

-- ---- one list

pub AreOnce-without : (x : ℕ) (rows : List ℕ) → AreOnce rows → AreOnce (without x rows)
AreOnce-without x rows once =
    elim (cases_Bool (list_any (eqb x) rows)) [
      | inl on ↦
          let p = part None x rows on in
          let apart = AreApart-from_once p.front (x ∷ p.back) (subst AreOnce p.is once) in
          subst AreOnce (sym p.out) (once_from_AreApart p.front p.back record { first = apart.first; second = apart.second.1; apart = λ y one two. apart.apart y one (IsOn-rest y x p.back two) })
      | inr none ↦ subst AreOnce (sym (without-none x rows none)) once
    ]

pub IsOn-without : (x : ℕ) (rows : List ℕ) (y : ℕ) → IsOn (without x rows) y → IsOn rows y
IsOn-without x rows y there =
    elim (cases_Bool (list_any (eqb x) rows)) [
      | inl on ↦
          let p = part None x rows on in
          subst (λ l. IsOn l y) (sym p.is) (elim (IsOn-append_cases p.front p.back y (subst (λ l. IsOn l y) p.out there)) [
            | inl one ↦ IsOn-append_left p.front (x ∷ p.back) y one
            | inr two ↦ IsOn-append_right p.front (x ∷ p.back) y (IsOn-rest y x p.back two)
          ])
      | inr none ↦ subst (λ l. IsOn l y) (without-none x rows none) there
    ]

pub without-IsOn : (x : ℕ) (rows : List ℕ) (y : ℕ) → y ≢ x → IsOn rows y → IsOn (without x rows) y
without-IsOn x rows y other there =
    elim (cases_Bool (list_any (eqb x) rows)) [
      | inl on ↦
          let p = part None x rows on in
          subst (λ l. IsOn l y) (sym p.out) (elim (IsOn-append_cases p.front (x ∷ p.back) y (subst (λ l. IsOn l y) p.is there)) [
            | inl one ↦ IsOn-append_left p.front p.back y one
            | inr two ↦ elim (or_cases (eqb y x) (list_any (eqb y) p.back) two) [
              | inl same ↦ absurd (other (eqb-true y x same))
              | inr rest ↦ IsOn-append_right p.front p.back y rest
            ]
          ])
      | inr none ↦ subst (λ l. IsOn l y) (sym (without-none x rows none)) there
    ]

pub AreOnce-push : (x : ℕ) (rows : List ℕ) → AreOnce rows → list_any (eqb x) rows ≡ false → AreOnce (rows ++ x ∷ [])
AreOnce-push x rows once new = once_from_AreApart rows (x ∷ []) record {
  first = once;
  second = (refl, tt);
  apart = λ y one two. elim (or_cases (eqb y x) false two) [
    | inl same ↦ both_ways (list_any (eqb x) rows) new (subst (IsOn rows) (eqb-true y x same) one)
    | inr none ↦ false≢true none
  ];
}

pub is_head-same : (o : Option ℕ) (h : ℕ) → is_head o h ≡ true → o ≡ Some h
is_head-same None h is = absurd (false≢true is)
is_head-same (Some k) h is = ap (λ (j : ℕ). Some j) (eqb-true k h is)

pub is_head-from : (o : Option ℕ) (h : ℕ) → o ≡ Some h → is_head o h ≡ true
is_head-from o h is = ap (λ (p : Option ℕ). is_head p h) is ∙ eq-eqb h h refl

module _ {T : Type 0} {F : ℕ} where
  -- rows that were not removed, on the lists of their heads
  pub AreListed-live : (t : Table T F) → AreListed t → AreListed (live_table t)
  AreListed-live t listed = record {
    each = λ x f h. subst (λ o. IsOn (t.list f h) x ↔ StandsUnder o f h) (twice (t.row x)) (listed.each x f h);
    once = listed.once;
  }
    where
      kept : (r : Row T F) (b : Bool) → r.gone ≡ b → live (Some r) ≡ live (live (Some r))
      kept r true gone = ap (λ (b : Bool). cond b None (Some r)) gone ∙ sym (ap (λ (b : Bool). live (cond b None (Some r))) gone)
      kept r false stays = sym (ap (λ (b : Bool). live (cond b None (Some r))) stays)

      twice : (o : Option (Row T F)) → live o ≡ live (live o)
      twice None = refl
      twice (Some r) = kept r r.gone refl

  -- what stands under a head
  stands : (o : Option (Row T F)) (r : Row T F) (f h : ℕ) → o ≡ Some r → StandsUnder o f h → head_of r f ≡ Some h
  stands o r f h is (s, same, head) = let e : r ≡ s = (let both : Some r ≡ Some s = sym is ∙ same in cc) in ap (λ (q : Row T F). head_of q f) e ∙ head

  stands_not : (o : Option (Row T F)) (f h : ℕ) → o ≡ None → StandsUnder o f h → ⊥
  stands_not o f h is (s, same, head) = let both : None ≡ Some s = sym is ∙ same in cc

  -- ---- a row removed

  module _ (old new : Table T F) (x : ℕ) (r : Row T F) (listed : AreListed old) (there : live (old.row x) ≡ Some r) (gone : live (new.row x) ≡ None) (others : (y : ℕ) → y ≢ x → new.row y ≡ old.row y) (lists : (f h : ℕ) → new.list f h ≡ cond (is_head (head_of r f) h) (without x (old.list f h)) (old.list f h)) where
    list_without : (f h : ℕ) → new.list f h ≡ without x (old.list f h)
    list_without f h =
        elim (cases_Bool (is_head (head_of r f) h)) [
          | inl same ↦ lists f h ∙ cond-true (is_head (head_of r f) h) (without x (old.list f h)) (old.list f h) same
          | inr other ↦
              lists f h ∙ cond-false (is_head (head_of r f) h) (without x (old.list f h)) (old.list f h) other
              ∙ sym (without-none x (old.list f h) (false_from_ne_true (list_any (eqb x) (old.list f h)) (λ on.
              both_ways (is_head (head_of r f) h) other (is_head-from (head_of r f) h (stands (live (old.row x)) r f h there ((listed.each x f h).0 on))))))
        ]

    pub listed_removed : AreListed new
    listed_removed = record {
      each = λ y f h. elim (cases_eq y x) [
        | inl same ↦ (
          λ on. absurd (both_ways (list_any (eqb x) (without x (old.list f h))) (without-new x (old.list f h) (listed.once f h)) (subst (λ z. IsOn (without x (old.list f h)) z) same (subst (λ l. IsOn l y) (list_without f h) on))),
          λ s. absurd (stands_not (live (new.row x)) f h gone (subst (λ z. StandsUnder (live (new.row z)) f h) same s)),
        )
        | inr other ↦ (
          λ on. subst (λ o. StandsUnder (live o) f h) (sym (others y other)) ((listed.each y f h).0 (IsOn-without x (old.list f h) y (subst (λ l. IsOn l y) (list_without f h) on))),
          λ s. subst (λ l. IsOn l y) (sym (list_without f h)) (without-IsOn x (old.list f h) y other ((listed.each y f h).1 (subst (λ o. StandsUnder (live o) f h) (others y other) s))),
        )
      ];
      once = λ f h. subst AreOnce (sym (list_without f h)) (AreOnce-without x (old.list f h) (listed.once f h));
    }

    pub present_removed : live_table new ≡ without_row (live_table old) x
    present_removed =
        let rows : (λ y. live (new.row y)) ≡ with_row (λ y. live (old.row y)) x None = row_by (λ y. live (new.row y)) (λ y. live (old.row y)) x None gone (λ y other. ap live (others y other)) in
        λ i. record { row = rows i; list = λ f h. list_without f h i }

  -- ---- a row added

  module _ (old new : Table T F) (x : ℕ) (r : Row T F) (listed : AreListed old) (free : old.row x ≡ None) (is : new.row x ≡ Some r) (stays : r.gone ≡ false) (others : (y : ℕ) → y ≢ x → new.row y ≡ old.row y) (lists : (f h : ℕ) → new.list f h ≡ cond (is_head (head_of r f) h) (old.list f h ++ x ∷ []) (old.list f h)) where
    not_listed : (f h : ℕ) → list_any (eqb x) (old.list f h) ≡ false
    not_listed f h = false_from_ne_true (list_any (eqb x) (old.list f h)) (λ on. stands_not (live (old.row x)) f h (ap live free) ((listed.each x f h).0 on))

    lives : live (new.row x) ≡ Some r
    lives = ap live is ∙ cond-false r.gone None (Some r) stays

    own : (f h : ℕ) → IsOn (new.list f h) x ↔ StandsUnder (live (new.row x)) f h
    own f h =
        elim (cases_Bool (is_head (head_of r f) h)) [
          | inl same ↦ (
            λ on. (r, lives, is_head-same (head_of r f) h same),
            λ s. subst (λ l. IsOn l x) (sym (lists f h ∙ cond-true (is_head (head_of r f) h) (old.list f h ++ x ∷ []) (old.list f h) same)) (IsOn-append_right (old.list f h) (x ∷ []) x (IsOn-first x [])),
          )
          | inr other ↦ (
            λ on. absurd (both_ways (list_any (eqb x) (old.list f h)) (not_listed f h) (subst (λ l. IsOn l x) (lists f h ∙ cond-false (is_head (head_of r f) h) (old.list f h ++ x ∷ []) (old.list f h) other) on)),
            λ s. absurd (both_ways (is_head (head_of r f) h) other (is_head-from (head_of r f) h (stands (live (new.row x)) r f h lives s))),
          )
        ]

    same_on : (f h y : ℕ) → y ≢ x → IsOn (new.list f h) y ↔ IsOn (old.list f h) y
    same_on f h y other =
        elim (cases_Bool (is_head (head_of r f) h)) [
          | inl same ↦
              let at = lists f h ∙ cond-true (is_head (head_of r f) h) (old.list f h ++ x ∷ []) (old.list f h) same in (
                λ on. elim (IsOn-append_cases (old.list f h) (x ∷ []) y (subst (λ l. IsOn l y) at on)) [
                  | inl one ↦ one
                  | inr two ↦ elim (or_cases (eqb y x) false two) [ inl equal ↦ absurd (other (eqb-true y x equal)) | inr none ↦ absurd (false≢true none) ]
                ],
                λ on. subst (λ l. IsOn l y) (sym at) (IsOn-append_left (old.list f h) (x ∷ []) y on),
              )
          | inr apart ↦
              let at = lists f h ∙ cond-false (is_head (head_of r f) h) (old.list f h ++ x ∷ []) (old.list f h) apart in
              (λ on. subst (λ l. IsOn l y) at on, λ on. subst (λ l. IsOn l y) (sym at) on)
        ]

    once_new : (f h : ℕ) → AreOnce (new.list f h)
    once_new f h =
        elim (cases_Bool (is_head (head_of r f) h)) [
          | inl same ↦ subst AreOnce (sym (lists f h ∙ cond-true (is_head (head_of r f) h) (old.list f h ++ x ∷ []) (old.list f h) same)) (AreOnce-push x (old.list f h) (listed.once f h) (not_listed f h))
          | inr other ↦ subst AreOnce (sym (lists f h ∙ cond-false (is_head (head_of r f) h) (old.list f h ++ x ∷ []) (old.list f h) other)) (listed.once f h)
        ]

    pub listed_added : AreListed new
    listed_added = record {
      each = λ y f h. elim (cases_eq y x) [
        | inl same ↦ subst (λ z. IsOn (new.list f h) z ↔ StandsUnder (live (new.row z)) f h) (sym same) (own f h)
        | inr other ↦ (
          λ on. subst (λ o. StandsUnder (live o) f h) (sym (others y other)) ((listed.each y f h).0 ((same_on f h y other).0 on)),
          λ s. (same_on f h y other).1 ((listed.each y f h).1 (subst (λ o. StandsUnder (live o) f h) (others y other) s)),
        )
      ];
      once = once_new;
    }

    pub present_added : live_table new ≡ with_new (live_table old) x r
    present_added =
        let rows : (λ y. live (new.row y)) ≡ with_row (λ y. live (old.row y)) x (Some r) = row_by (λ y. live (new.row y)) (λ y. live (old.row y)) x (Some r) lives (λ y other. ap live (others y other)) in
        λ i. record { row = rows i; list = λ f h. lists f h i }

  -- ---- what no log brings about

  module _ (x : ℕ) where
    with_row-none : (row : ℕ → Option (Row T F)) (y : ℕ) (o : Option (Row T F)) → row x ≡ None → (y ≡ x → o ≡ None) → with_row row y o x ≡ None
    with_row-none row y o none own =
        elim (cases_eq x y) [
          | inl same ↦ cond-true (eqb x y) o (row x) (eq-eqb x y same) ∙ own (sym same)
          | inr other ↦ cond-false (eqb x y) o (row x) (ne_eqb x y other) ∙ none
        ]

    mapped-none : (row : ℕ → Option (Row T F)) (y : ℕ) (change : Row T F → Row T F) → row x ≡ None → y ≡ x → option_map change (row y) ≡ None
    mapped-none row y change none same = ap (λ z. option_map change (row z)) same ∙ ap (option_map change) none

    pub before-none : (c : Change T) (t : Table T F) → t.row x ≡ None → (before c t).row x ≡ None
    before-none (Entered y) t none = with_row-none t.row y None none (λ same. refl)
    before-none (Linked f h y) t none = none
    before-none (Unlinked f gap y) t none = none
    before-none (Replaced y value) t none = with_row-none t.row y (option_map (λ (r : Row T F). record r { value = value }) (t.row y)) none (mapped-none t.row y (λ (r : Row T F). record r { value = value }) none)
    before-none (Removed y) t none = with_row-none t.row y (option_map (λ (r : Row T F). record r { gone = false }) (t.row y)) none (mapped-none t.row y (λ (r : Row T F). record r { gone = false }) none)

    pub undone-none : (log : List (Change T)) (t : Table T F) → t.row x ≡ None → (undone log t).row x ≡ None
    undone-none [] t none = none
    undone-none (c ∷ log) t none = before-none c (undone log t) (undone-none log t none)
