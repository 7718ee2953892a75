-- Elements of several lists, as elements of one.
use Rattle.std.proofs.Common.{◌≡◌, ◌∙◌, ℕ, ◌<◌, Bool, false, List, [], length, refl, sym, ap, subst}
use Rattle.std.specs.Prelude.{Option, Some, None, IsTrue, slice_index_or}
use Rattle.std.specs.Option.{option_map}
use Rattle.std.specs.declared.cmp.Ordering.{Ordering}
use Rattle.std.specs.Ordering.{is_gt}
use Rattle.std.proofs.lemmas.List.{get_or_default}
use Rattle.std.proofs.lemmas.List.Elements.{Contains-get_or}
use Rattle.belief_theory.specs.FirstPlaces.{IsFirstPlace}
use Rattle.list_theory.proofs.Elements.{In, In-from_Contains, Contains-from_In, In-flat_map, flat_map-In}
use Rattle.clipping.specs.declared.across.Place.{Place}
use Rattle.clipping.specs.Across.{list_at, all_of, at_place, IsFirstPlaceOfAll}

module _ {A : Type 0} (lists : List (List A)) where
  -- what stands in a list is among all
  pub among_all : (i j : ℕ) (d : A) → i < length lists → j < length (list_at lists i) → In (slice_index_or (list_at lists i) j d) (all_of lists)
  among_all i j d lt within =
      flat_map-In (λ l. l) lists (list_at lists i) (slice_index_or (list_at lists i) j d)
      (In-from_Contains lists (list_at lists i) (Contains-get_or lists i [] lt)) (In-from_Contains (list_at lists i) (slice_index_or (list_at lists i) j d) (Contains-get_or (list_at lists i) j d within))

  -- what is among all stands in a list
  pub in_a_list : (x : A) → In x (all_of lists) → (i : ℕ) × (j : ℕ) × (i < length lists) × (j < length (list_at lists i)) × ((d : A) → slice_index_or (list_at lists i) j d ≡ x)
  in_a_list x at =
      let (l, among, own) = In-flat_map (λ l. l) lists x at in
      let (i, lt, is) = Contains-from_In lists l among in
      let (j, within, here) = Contains-from_In l x own in
      let list : list_at lists i ≡ l = get_or_default lists i [] l lt ∙ is in
      (i, j, lt, subst (λ z. j < length z) (sym list) within, λ d. ap (λ z. slice_index_or z j d) list ∙ get_or_default l j d x within ∙ here)

  module _ (cmp : A → A → Ordering) (test : A → Bool) (e : A) where
    -- **The first of all that pass a test** is the first in one list of all.
    pub first_of_all : (place : Option Place) → IsFirstPlaceOfAll cmp test lists place
        → (found : Option ℕ) × IsFirstPlace cmp test (all_of lists) found × (option_map (λ p. at_place lists p e) place ≡ option_map (λ i. slice_index_or (all_of lists) i e) found)
    first_of_all None none = (None, fails, refl)
      where
        fails : (k : ℕ) (d : A) → k < length (all_of lists) → test (slice_index_or (all_of lists) k d) ≡ false
        fails k d lt =
            let (i, j, within, here, is) = in_a_list (slice_index_or (all_of lists) k d) (In-from_Contains (all_of lists) (slice_index_or (all_of lists) k d) (Contains-get_or (all_of lists) k d lt)) in
            subst (λ z. test z ≡ false) (is d) (none i j d within here)
    first_of_all (Some p) first = (Some at, record { within = within; passes = passes; least = least }, ap Some (sym (read e)))
      where
        x : A
        x = at_place lists p e

        there : In x (all_of lists)
        there = among_all p.list p.at e first.list first.within

        at : ℕ
        at = (Contains-from_In (all_of lists) x there).0

        within : at < length (all_of lists)
        within = (Contains-from_In (all_of lists) x there).1

        read : (d : A) → slice_index_or (all_of lists) at d ≡ x
        read d = get_or_default (all_of lists) at d x within ∙ (Contains-from_In (all_of lists) x there).2

        passes : (d : A) → IsTrue (test (slice_index_or (all_of lists) at d))
        passes d = subst (λ z. IsTrue (test z)) (sym (read d)) (first.passes e)

        least : (k : ℕ) (d : A) → k < length (all_of lists) → IsTrue (test (slice_index_or (all_of lists) k d)) → is_gt (cmp (slice_index_or (all_of lists) at d) (slice_index_or (all_of lists) k d)) ≡ false
        least k d lt passing =
            let y : A = slice_index_or (all_of lists) k d in
            let (i, j, less, here, is) = in_a_list y (In-from_Contains (all_of lists) y (Contains-get_or (all_of lists) k d lt)) in
            subst (λ z. is_gt (cmp z y) ≡ false) (sym (read d))
            (subst (λ z. is_gt (cmp x z) ≡ false) (is e) (first.least i j e less here (subst (λ z. IsTrue (test z)) (sym (is e)) passing)))
