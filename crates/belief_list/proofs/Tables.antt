-- Items that are found by their numbers.
use Rattle.std.proofs.Common.{◌≡◌, ℕ, List, map, Option, Some, None, true, refl, sym, ◌∙◌, ap}
use Rattle.std.specs.Prelude.{is_some, slice_get}
use Rattle.std.specs.List.{Contains}
use Rattle.std.specs.Option.{option_map}
use Rattle.std.proofs.lemmas.Option.{slice_get-map, slice_get_within, get_or_from_slice_get, same_Some}
use Rattle.list_theory.proofs.Elements.{In, In-from_Contains}
use Rattle.belief_list.specs.Tables.{place_in, item_at, item_under, IsTable}

-- what is at a place is in the list
pub at-In : {X : Type 0} (xs : List X) (place : Option ℕ) (y : X) → item_at xs place ≡ Some y → In y xs
at-In xs None y at = absurd (cc at)
at-In xs (Some i) y at = In-from_Contains xs y (i, slice_get_within xs i y at, get_or_from_slice_get xs i y y at)

module _ {X : Type 0} (number : X → ℕ) (xs : List X) (places : List (Option ℕ)) (table : IsTable (map number xs) places) where
  -- at the place of a number is an item of it
  at_place : (x i : ℕ) → place_in places x ≡ Some i → (y : X) × (slice_get xs i ≡ Some y) × (number y ≡ x)
  at_place x i e = by (slice_get xs i) (sym (slice_get-map number xs i) ∙ table.found x i e)
    where
      by : (o : Option X) → option_map number o ≡ Some x → (y : X) × (o ≡ Some y) × (number y ≡ x)
      by None at = absurd (cc at)
      by (Some y) at = (y, refl, same_Some (number y) x at)

  -- the item under a number is of it
  pub under_own : (x : ℕ) (y : X) → item_under xs places x ≡ Some y → number y ≡ x
  under_own x y at = by (place_in places x) refl at
    where
      by : (o : Option ℕ) → place_in places x ≡ o → item_at xs o ≡ Some y → number y ≡ x
      by None e at = absurd (cc at)
      by (Some i) e at = let (z, there, is) = at_place x i e in ap number (same_Some y z (sym at ∙ there)) ∙ is

  -- an item stands under each number that is one's
  pub under_all : (x : ℕ) → Contains (map number xs) x → (y : X) × (item_under xs places x ≡ Some y)
  under_all x there = by (place_in places x) refl (table.all x there)
    where
      by : (o : Option ℕ) → place_in places x ≡ o → is_some o ≡ true → (y : X) × (item_under xs places x ≡ Some y)
      by None e some = absurd (cc some)
      by (Some i) e some = let (y, at, is) = at_place x i e in (y, ap (item_at xs) e ∙ at)
