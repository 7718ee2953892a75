-- Functions over a list that agree on its members give the same.
use Rattle.std.proofs.Common.{◌≡◌, ◌∙◌, Bool, true, false, ◌||◌, List, [], ◌∷◌, ◌++◌, map, refl, ap, inl, inr, cond}
use Rattle.std.specs.Prelude.{Option, Some, None, filter, ◌⊎◌}
use Rattle.std.specs.List.{list_any, filter_map, flat_map, cons_option}
use Rattle.std.specs.Ordering.{is_lt, is_gt}
use Rattle.std.specs.declared.cmp.Ordering.{Ordering}
use Rattle.tmm_model.specs.Firsts.{earliest, first, placed, sorted}
use Rattle.list_theory.proofs.Elements.{In}

pub any_same : {X : Type 0} (p q : X → Bool) (xs : List X) → ((x : X) → In x xs → p x ≡ q x) → list_any p xs ≡ list_any q xs
any_same p q [] h = refl
any_same p q (x ∷ xs) h = λ i. h x (inl refl) i || any_same p q xs (λ y at. h y (inr at)) i

pub filter_same : {X : Type 0} (p q : X → Bool) (xs : List X) → ((x : X) → In x xs → p x ≡ q x) → filter p xs ≡ filter q xs
filter_same p q [] h = refl
filter_same p q (x ∷ xs) h = λ i. cond (h x (inl refl) i) (x ∷ filter_same p q xs (λ y at. h y (inr at)) i) (filter_same p q xs (λ y at. h y (inr at)) i)

pub map_same : {X Y : Type 0} (f g : X → Y) (xs : List X) → ((x : X) → In x xs → f x ≡ g x) → map f xs ≡ map g xs
map_same f g [] h = refl
map_same f g (x ∷ xs) h = λ i. h x (inl refl) i ∷ map_same f g xs (λ y at. h y (inr at)) i

pub flat_map_same : {X Y : Type 0} (f g : X → List Y) (xs : List X) → ((x : X) → In x xs → f x ≡ g x) → flat_map f xs ≡ flat_map g xs
flat_map_same f g [] h = refl
flat_map_same f g (x ∷ xs) h = λ i. h x (inl refl) i ++ flat_map_same f g xs (λ y at. h y (inr at)) i

-- what passes for no member leaves none
pub filter_none : {X : Type 0} (p : X → Bool) (xs : List X) → ((x : X) → In x xs → p x ≡ false) → filter p xs ≡ []
filter_none p [] h = refl
filter_none p (x ∷ xs) h = ap (λ b. cond b (x ∷ filter p xs) (filter p xs)) (h x (inl refl)) ∙ filter_none p xs (λ y at. h y (inr at))

pub filter_map_none : {X Y : Type 0} (f : X → Option Y) (xs : List X) → ((x : X) → In x xs → f x ≡ None) → filter_map f xs ≡ []
filter_map_none f [] h = refl
filter_map_none f (x ∷ xs) h = ap (λ o. cons_option o (filter_map f xs)) (h x (inl refl)) ∙ filter_map_none f xs (λ y at. h y (inr at))

-- ---- order

In_placed : {X : Type 0} (cmp : X → X → Ordering) (x : X) (ys : List X) (z : X) → In z (placed cmp x ys) → (x ≡ z) ⊎ In z ys
In_placed cmp x [] z (inl is) = inl is
In_placed cmp x [] z (inr at) = absurd at
In_placed {X} cmp x (y ∷ ys) z at = by (is_gt (cmp x y)) (In_placed cmp x ys z) at
  where
    by : (b : Bool) → (In z (placed cmp x ys) → (x ≡ z) ⊎ In z ys) → In z (elim b as (λ _. List X) [ true ↦ y ∷ placed cmp x ys | false ↦ x ∷ y ∷ ys ]) → (x ≡ z) ⊎ In z (y ∷ ys)
    by true again (inl is) = inr (inl is)
    by true again (inr at) = elim (again at) [ inl is ↦ inl is | inr there ↦ inr (inr there) ]
    by false again (inl is) = inl is
    by false again (inr at) = inr at

pub In_sorted : {X : Type 0} (cmp : X → X → Ordering) (xs : List X) (z : X) → In z (sorted cmp xs) → In z xs
In_sorted cmp [] z at = absurd at
In_sorted cmp (x ∷ xs) z at = elim (In_placed cmp x (sorted cmp xs) z at) [ inl is ↦ inl is | inr there ↦ inr (In_sorted cmp xs z there) ]

placed_same : {X : Type 0} (cmp other : X → X → Ordering) (x : X) (ys : List X) → ((y : X) → In y ys → cmp x y ≡ other x y) → placed cmp x ys ≡ placed other x ys
placed_same {X} cmp other x [] h = refl
placed_same {X} cmp other x (y ∷ ys) h =
    λ i. elim (is_gt (h y (inl refl) i)) as (λ _. List X) [ true ↦ y ∷ placed_same cmp other x ys (λ z at. h z (inr at)) i | false ↦ x ∷ y ∷ ys ]

pub sorted_same : {X : Type 0} (cmp other : X → X → Ordering) (xs : List X) → ((x y : X) → In x xs → In y xs → cmp x y ≡ other x y) → sorted cmp xs ≡ sorted other xs
sorted_same cmp other [] h = refl
sorted_same cmp other (x ∷ xs) h =
    placed_same cmp other x (sorted cmp xs) (λ y at. h x y (inl refl) (inr (In_sorted cmp xs y at)))
    ∙ ap (placed other x) (sorted_same cmp other xs (λ y z at_y at_z. h y z (inr at_y) (inr at_z)))

earliest_same : {X : Type 0} (cmp other : X → X → Ordering) (x : X) (xs : List X) → ((y z : X) → In y (x ∷ xs) → In z (x ∷ xs) → cmp y z ≡ other y z) → earliest cmp x xs ≡ earliest other x xs
earliest_same {X} cmp other x [] h = refl
earliest_same {X} cmp other x (y ∷ ys) h =
    λ i. elim (is_lt (h y x (inr (inl refl)) (inl refl) i)) as (λ _. X) [
      | true ↦ earliest_same cmp other y ys (λ z w at_z at_w. h z w (inr at_z) (inr at_w)) i
      | false ↦ earliest_same cmp other x ys (λ z w at_z at_w. h z w (wider z at_z) (wider w at_w)) i
    ]
  where
    wider : (z : X) → In z (x ∷ ys) → In z (x ∷ y ∷ ys)
    wider z (inl is) = inl is
    wider z (inr at) = inr (inr at)

pub first_same : {X : Type 0} (cmp other : X → X → Ordering) (xs : List X) → ((x y : X) → In x xs → In y xs → cmp x y ≡ other x y) → first cmp xs ≡ first other xs
first_same cmp other [] h = refl
first_same cmp other (x ∷ xs) h = ap Some (earliest_same cmp other x xs h)
