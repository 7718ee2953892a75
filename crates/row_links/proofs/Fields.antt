-- The fields of a family, after its places and ends have been written.
use Rattle.std.proofs.Common.{◌≡◌, ℕ, ◌<◌, ◌≤◌, List, ◌++◌, length, Option, Some, None, IfSome, sym, ap, ap₂, ◌∙◌, subst, subst₂, arith, set, get_or, length-set, replicate, lt_of_lt_of_le}
use Rattle.std.proofs.lemmas.List.{get_or_read, length-map}
use Rattle.row_links.specs.declared.place.Place.{Place}
use Rattle.row_links.specs.declared.place.Ends.{Ends}
use Rattle.row_links.specs.RowNumbers.{no_row}
use Rattle.row_links.specs.Lists.{Lists, IsOn, IsOnNone, list_of, with_list, put_after, after_gap, Grows}
use Rattle.row_links.specs.Threads.{nowhere, no_ends, places_after, places_before, ends_after, ends_before}
use Rattle.row_links.specs.FamilyInside.{rows_between, lists_in, IsFamily, IsSound}
use Rattle.row_links.proofs.Families.{Unlinks, Unlinked, Relinks, row_within, unlinks_known, unlinked_fields, relinks, grows_by, places_with, ends_with, length-places_with}

-- ---- a row on a list

module _ (places : List Place) (ends : List Ends) (sound : IsSound places ends) (l : Lists) (is : lists_in places ends ≡ l) (x : ℕ) (known : (h : ℕ) × IsOn (list_of l h) x) where
  -- there is a place of it
  pub has_place : x < length places
  has_place = row_within places ends sound.family l x is known

  module _ (p : Place) (read : p ≡ get_or places x p) where
    -- what is known of its place
    pub leaves : Unlinks places ends x p
    leaves = unlinks_known places ends sound.family l x is known p (get_or_read places x p has_place read (record { head = 0; before = None; after = None }))

    -- the rows on both sides of it now know each other
    pub closed : (b : Option ℕ) (mid_places new_places : List Place) (mid_ends new_ends : List Ends) → b ≡ p.before → mid_places ≡ places_after p.before p.after places → mid_ends ≡ ends_after p.head p.before p.after ends → new_places ≡ places_before p.after p.before mid_places → new_ends ≡ ends_before p.head p.after p.before mid_ends → IsSound new_places new_ends × Unlinked l (lists_in new_places new_ends) x p.head b
    closed b mid_places new_places mid_ends new_ends b_is first first_ends second second_ends =
        let places_are : new_places ≡ places_with p.before p.after p.after p.before places = second ∙ ap (places_before p.after p.before) first in
        let ends_are : new_ends ≡ ends_with p.head p.before p.after p.after p.before ends = second_ends ∙ ap (ends_before p.head p.after p.before) first_ends in
        let as_many : length new_places ≡ length places = ap length places_are ∙ length-places_with places p.before p.after p.after p.before in
        let (family, left) = unlinked_fields places new_places ends new_ends l x p is has_place leaves places_are ends_are in (
          record { family = family; few = subst (λ n. n ≤ no_row) (sym as_many) sound.few },
          subst (Unlinked l (lists_in new_places new_ends) x p.head) (sym b_is) left,
        )

-- ---- a row on no list

module _ (places : List Place) (ends : List Ends) (sound : IsSound places ends) (l : Lists) (is : lists_in places ends ≡ l) where
  -- a row that there is has another number than none
  pub has_number : (x : ℕ) → x < l.rows → x < no_row
  has_number x here = lt_of_lt_of_le (subst (λ (m : Lists). x < m.rows) (sym is) here) sound.few

  pub gap_has_number : (h : ℕ) (before : Option ℕ) → IfSome before (IsOn (list_of l h)) → IfSome before (λ y. y < no_row)
  gap_has_number h None on = tt
  gap_has_number h (Some y) on = lt_of_lt_of_le (row_within places ends sound.family l y is (h, on)) sound.few

  -- there is an end of the list of a head
  pub has_ends : (h : ℕ) → h < length l.lists → h < length ends
  has_ends h within =
      let heads : h < length (lists_in places ends).lists = subst (λ (m : Lists). h < length m.lists) (sym is) within in
      omega (arith, length-map ends (rows_between places))

  module _ (x h : ℕ) (before after : Option ℕ) (here : x < l.rows) (within : h < length l.lists) (none : IsOnNone l x) (on : IfSome before (IsOn (list_of l h))) (after_is : after ≡ after_gap before (list_of l h)) where
    -- what is known where it comes to stand in front of `after`
    pub enters : Relinks places ends x h before after
    enters = relinks places ends sound.family x h
        (subst (λ (m : Lists). x < m.rows) (sym is) here)
        (has_ends h within)
        (subst (λ (m : Lists). IsOnNone m x) (sym is) none)
        before after
        (subst (λ (m : Lists). IfSome before (IsOn (list_of m h))) (sym is) on)
        (after_is ∙ ap (λ (m : Lists). after_gap before (list_of m h)) (sym is))

    -- it is written into its place, and its neighbours are written, by links to what these are
    module _ (b own : Option ℕ) (b_is : b ≡ before) (own_is : own ≡ Some x) where
      pub before_has_place : IfSome b (λ y. y < length (set places x (record { head = h; before = b; after = after })))
      before_has_place = subst (λ o. IfSome o (λ y. y < length (set places x (record { head = h; before = o; after = after })))) (sym b_is) enters.before_within

      module _ (mid_places : List Place) (first : mid_places ≡ places_after b own (set places x (record { head = h; before = b; after = after }))) where
        placed : mid_places ≡ places_after before (Some x) (set places x (record { head = h; before = before; after = after }))
        placed = first ∙ ap₂ (λ o w. places_after o w (set places x (record { head = h; before = o; after = after }))) b_is own_is

        pub after_has_place : IfSome after (λ y. y < length mid_places)
        after_has_place = subst (λ l. IfSome after (λ y. y < length l)) (sym placed) enters.after_within

        pub opened : (new_places : List Place) (mid_ends new_ends : List Ends) → mid_ends ≡ ends_after h b own ends → new_places ≡ places_before after own mid_places → new_ends ≡ ends_before h after own mid_ends → IsSound new_places new_ends × (lists_in new_places new_ends ≡ with_list l h (put_after before x (list_of l h)))
        opened new_places mid_ends new_ends first_ends second second_ends =
            let there : Place = record { head = h; before = before; after = after } in
            let places_are : places_with before after (Some x) (Some x) (set places x there) ≡ new_places =
            sym (second ∙ ap₂ (λ w l. places_before after w l) own_is placed) in
            let ends_are : ends_with h before after (Some x) (Some x) ends ≡ new_ends =
            sym (second_ends ∙ ap₂ (λ w l. ends_before h after w l) own_is (first_ends ∙ ap₂ (λ o w. ends_after h o w ends) b_is own_is)) in
            let as_many : length new_places ≡ length places =
            ap length (sym places_are) ∙ length-places_with (set places x there) before after (Some x) (Some x) ∙ length-set places x there in (
              record { family = subst₂ IsFamily places_are ends_are enters.sets.family; few = subst (λ n. n ≤ no_row) (sym as_many) sound.few },
              ap₂ lists_in (sym places_are) (sym ends_are) ∙ enters.sets.lists ∙ ap (λ (m : Lists). with_list m h (put_after before x (list_of m h))) is,
            )

-- ---- more rows and heads

module _ (places new_places : List Place) (ends new_ends : List Ends) (sound : IsSound places ends) where
  -- rows that have been on no list, and heads of lists without rows, are behind the others
  pub grown_fields : (n : ℕ) (place : Place) (none : Ends) → ((m : ℕ) → n ≤ m → length places ≤ m → length new_places ≤ m) → n ≤ no_row → place ≡ nowhere → none ≡ no_ends → (k : ℕ) × (new_places ≡ places ++ replicate k place) → (k : ℕ) × (new_ends ≡ ends ++ replicate k none) → IsSound new_places new_ends × Grows (lists_in places ends) (lists_in new_places new_ends)
  grown_fields n place none few numbered place_is none_is more more_heads =
      let (family, grows) = grows_by places new_places ends new_ends sound.family
      (subst (λ p. (k : ℕ) × (new_places ≡ places ++ replicate k p)) place_is more)
      (subst (λ e. (k : ℕ) × (new_ends ≡ ends ++ replicate k e)) none_is more_heads) in
      (record { family = family; few = few no_row numbered sound.few }, grows)
