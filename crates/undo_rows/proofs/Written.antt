-- Rows after one of them has changed.
use Rattle.std.proofs.Common.{◌≡◌, ◌≢◌, ℕ, Bool, true, false, cond, eqb, ◌<◌, List, [], ◌∷◌, ◌++◌, length, Option, Some, None, refl, sym, ap, ◌∙◌, subst, inl, inr, eq-eqb, ne_eqb, get_or-set_same, get_or-set_other, slice_index_or, slice_set, ◌↔◌, option_map}
use Rattle.std.proofs.lemmas.Bool.{cases_eq, cases_lt, cond-true, cond-false}
use Rattle.std.proofs.lemmas.List.{get_or_past}
use Rattle.row_links.specs.Lists.{Lists, IsOn, AreOnce}
use Rattle.undo_rows.specs.declared.row.Row.{Row}
use Rattle.undo_rows.specs.declared.change.Change.{Change}
use Rattle.undo_rows.specs.declared.change.Change.TheVariants.{Replaced}
use Rattle.undo_rows.specs.Tables.{Table, AreListed, StandsUnder, live, live_table, with_row, with_value, head_of}
use Rattle.undo_rows.specs.Changes.{before, undone, table_in}
use Rattle.undo_rows.specs.RowsInside.{CanUndo, CanUndoAll}
use Rattle.undo_rows.proofs.Undoing.{undone-push, CanUndoAll-push}

module _ {T : Type 0} {F : ℕ} where
  -- ---- one row written

  row_within : (slots : List (Option (Row T F))) (x : ℕ) (r : Row T F) → slice_index_or slots x None ≡ Some r → x < length slots
  row_within slots x r is =
      elim (cases_lt x (length slots)) [
        | inl within ↦ within
        | inr past ↦ let none = get_or_past slots x None past in absurd (let different : Some r ≡ None = sym is ∙ none in cc)
      ]

  pub with_row-same : (row : ℕ → Option (Row T F)) (x : ℕ) (r : Option (Row T F)) → with_row row x r x ≡ r
  with_row-same row x r = cond-true (eqb x x) r (row x) (eq-eqb x x refl)

  pub with_row-other : (row : ℕ → Option (Row T F)) (x : ℕ) (r : Option (Row T F)) (y : ℕ) → y ≢ x → with_row row x r y ≡ row y
  with_row-other row x r y other = cond-false (eqb y x) r (row y) (ne_eqb y x other)

  -- a function of rows that has this value at x, and is another's elsewhere
  pub row_by : (new old : ℕ → Option (Row T F)) (x : ℕ) (r : Option (Row T F)) → new x ≡ r → ((y : ℕ) → y ≢ x → new y ≡ old y) → new ≡ with_row old x r
  row_by new old x r here there = λ i y. at y i
    where
      at : (y : ℕ) → new y ≡ with_row old x r y
      at y =
          elim (cases_eq y x) [
            | inl same ↦ subst (λ z. new z ≡ with_row old x r z) (sym same) (here ∙ sym (with_row-same old x r))
            | inr other ↦ there y other ∙ sym (with_row-other old x r y other)
          ]

  pub slots_set : (slots : List (Option (Row T F))) (x : ℕ) (r s : Row T F) → slice_index_or slots x None ≡ Some r → (λ y. slice_index_or (slice_set slots x (Some s)) y None) ≡ with_row (λ y. slice_index_or slots y None) x (Some s)
  slots_set slots x r s is =
      let within = row_within slots x r is in
      row_by (λ y. slice_index_or (slice_set slots x (Some s)) y None) (λ y. slice_index_or slots y None) x (Some s)
      (get_or-set_same slots x (Some s) None within)
      (λ y other. get_or-set_other slots x y (Some s) None other)

  -- written twice, and as it was
  pub with_row-back : (row : ℕ → Option (Row T F)) (x : ℕ) (r s : Option (Row T F)) → row x ≡ s → with_row (with_row row x r) x s ≡ row
  with_row-back row x r s is = λ i y. at y i
    where
      at : (y : ℕ) → with_row (with_row row x r) x s y ≡ row y
      at y =
          elim (cases_eq y x) [
            | inl same ↦ subst (λ z. with_row (with_row row x r) x s z ≡ row z) (sym same) (with_row-same (with_row row x r) x s ∙ sym is)
            | inr other ↦ with_row-other (with_row row x r) x s y other ∙ with_row-other row x r y other
          ]

  -- ---- a change of one row that is logged

  -- the log with the change leads back to where it led, and can be undone
  pub record Steps (families : List Lists) (log log_after : List (Change T)) (old new : Table T F) : Type 0 where
    pub leads : undone log_after new ≡ undone log old
    pub undoes : CanUndoAll families log_after new

  pub steps : (families : List Lists) (log log_after : List (Change T)) (c : Change T) (old new : Table T F) → log_after ≡ log ++ c ∷ [] → CanUndoAll families log old → CanUndo families c new → before c new ≡ old → Steps families log log_after old new
  steps families log log_after c old new is all can back = record {
    leads = ap (λ l. undone l new) is ∙ undone-push log c new ∙ ap (undone log) back;
    undoes = subst (λ l. CanUndoAll families l new) (sym is) (CanUndoAll-push families log c new can (subst (CanUndoAll families log) (sym back) all));
  }

  -- ---- rows on lists

  -- rows with the same heads
  pub AreListed-like : (old new : Table T F) → old.list ≡ new.list → ((x f h : ℕ) → StandsUnder (live (old.row x)) f h ↔ StandsUnder (live (new.row x)) f h) → AreListed old → AreListed new
  AreListed-like old new same heads listed = record {
    each = λ x f h. (
      λ on. (heads x f h).0 ((listed.each x f h).0 (subst (λ (list : ℕ → ℕ → List ℕ). IsOn (list f h) x) (sym same) on)),
      λ stands. subst (λ (list : ℕ → ℕ → List ℕ). IsOn (list f h) x) same ((listed.each x f h).1 ((heads x f h).1 stands)),
    );
    once = λ f h. subst (λ (list : ℕ → ℕ → List ℕ). AreOnce (list f h)) same (listed.once f h);
  }

  -- a row with another value
  module _ (slots new_slots : List (Option (Row T F))) (families : List Lists) (x : ℕ) (r : Row T F) (value : T) (there : slice_index_or slots x None ≡ Some r) (is : new_slots ≡ slice_set slots x (Some (record r { value = value }))) where
    abbrev replaced : Row T F
    replaced = record r { value = value }

    rows_are : (table_in new_slots families).row ≡ with_row (table_in slots families).row x (Some replaced)
    rows_are = ap (λ (l : List (Option (Row T F))). λ y. slice_index_or l y None) is ∙ slots_set slots x r replaced there

    pub table_replaced : table_in new_slots families ≡ record (table_in slots families) { row = with_row (table_in slots families).row x (Some replaced) }
    table_replaced = λ i. record { row = rows_are i; list = (table_in slots families).list }

    pub replaced_back : before (Replaced x r.value) (table_in new_slots families) ≡ table_in slots families
    replaced_back =
        ap (before (Replaced x r.value)) table_replaced
        ∙ (λ i. record { row = back i; list = (table_in slots families).list })
      where
        row : ℕ → Option (Row T F)
        row = (table_in slots families).row

        back : with_row (with_row row x (Some replaced)) x (option_map (λ (s : Row T F). record s { value = r.value }) (with_row row x (Some replaced) x)) ≡ row
        back = ap (λ (o : Option (Row T F)). with_row (with_row row x (Some replaced)) x (option_map (λ (s : Row T F). record s { value = r.value }) o)) (with_row-same row x (Some replaced)) ∙ with_row-back row x (Some replaced) (Some r) there

    live_replaced : live (Some replaced) ≡ option_map (λ (s : Row T F). record s { value = value }) (live (Some r))
    live_replaced = by r.gone
      where
        by : (t : Bool) → cond t None (Some replaced) ≡ option_map (λ (s : Row T F). record s { value = value }) (cond t None (Some r))
        by true = refl
        by false = refl

    pub present_replaced : live_table (table_in new_slots families) ≡ with_value (live_table (table_in slots families)) x value
    present_replaced = λ i. record { row = rows i; list = (table_in slots families).list }
      where
        row : ℕ → Option (Row T F)
        row = (table_in slots families).row

        rows : (λ y. live ((table_in new_slots families).row y)) ≡ with_row (λ y. live (row y)) x (option_map (λ (s : Row T F). record s { value = value }) (live (row x)))
        rows =
            row_by (λ y. live ((table_in new_slots families).row y)) (λ y. live (row y)) x (option_map (λ (s : Row T F). record s { value = value }) (live (row x)))
            (ap (λ (f : ℕ → Option (Row T F)). live (f x)) rows_are ∙ ap live (with_row-same row x (Some replaced)) ∙ live_replaced ∙ ap (λ (o : Option (Row T F)). option_map (λ (s : Row T F). record s { value = value }) (live o)) (sym there))
            (λ y other. ap (λ (f : ℕ → Option (Row T F)). live (f y)) rows_are ∙ ap live (with_row-other row x (Some replaced) y other))

    heads_by : (t : Bool) (f h : ℕ) → StandsUnder (cond t None (Some r)) f h ↔ StandsUnder (cond t None (Some replaced)) f h
    heads_by true f h = (λ (s, same, head). absurd (let e : None ≡ Some s = same in cc), λ (s, same, head). absurd (let e : None ≡ Some s = same in cc))
    heads_by false f h = (
      λ (s, same, head). let e : s ≡ r = cc in (replaced, refl, ap (λ (q : Row T F). head_of q f) (sym e) ∙ head),
      λ (s, same, head). let e : s ≡ replaced = cc in (r, refl, ap (λ (q : Row T F). head_of q f) (sym e) ∙ head),
    )

    pub listed_replaced : AreListed (table_in slots families) → AreListed (table_in new_slots families)
    listed_replaced listed = AreListed-like (table_in slots families) (table_in new_slots families) refl each listed
      where
        row : ℕ → Option (Row T F)
        row = (table_in slots families).row

        each : (y f h : ℕ) → StandsUnder (live (row y)) f h ↔ StandsUnder (live ((table_in new_slots families).row y)) f h
        each y f h =
            elim (cases_eq y x) [
              | inl same ↦
                  subst (λ z. StandsUnder (live (row z)) f h ↔ StandsUnder (live ((table_in new_slots families).row z)) f h) (sym same)
                  (subst (λ (o : Option (Row T F)). StandsUnder (live (row x)) f h ↔ StandsUnder (live o) f h) (sym (ap (λ (g : ℕ → Option (Row T F)). g x) rows_are ∙ with_row-same row x (Some replaced)))
                  (subst (λ (o : Option (Row T F)). StandsUnder (live o) f h ↔ StandsUnder (live (Some replaced)) f h) (sym there) (heads_by r.gone f h)))
              | inr other ↦
                  subst (λ (o : Option (Row T F)). StandsUnder (live (row y)) f h ↔ StandsUnder (live o) f h) (sym (ap (λ (g : ℕ → Option (Row T F)). g y) rows_are ∙ with_row-other row x (Some replaced) y other))
                  (λ s. s, λ s. s)
            ]
