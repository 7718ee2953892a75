-- Lists without repeats, and lists in rising order.
use Rattle.std.proofs.Common.{◌≡◌, ℕ, ◌+◌, Bool, true, false, List, [], ◌∷◌, ◌++◌, refl, sym, ◌∙◌, ap, subst, arith, inl, inr, ◌≤◌}
use Rattle.std.specs.Prelude.{filter, map, cond, sum_by}
use Rattle.std.specs.List.{flat_map}
use Rattle.std.proofs.lemmas.List.Sums.{sum_by-cons}
use Rattle.std.specs.declared.cmp.Ordering.{Ordering}
use Rattle.std.specs.declared.cmp.Ordering.TheVariants.{Less}
use Rattle.list_theory.proofs.Elements.{In, In-cases, In-flat_map, In-map, In-filter}

-- no element stands twice
abbrev pub Distinct : {X : Type 0} → List X → Type 0
Distinct [] = Unit {0}
Distinct (x ∷ xs) = (In x xs → ⊥) × Distinct xs

pub Distinct-append : {X : Type 0} (xs ys : List X) → Distinct xs → Distinct ys → ((x : X) → In x xs → In x ys → ⊥) → Distinct (xs ++ ys)
Distinct-append [] ys dx dy apart = dy
Distinct-append (x ∷ xs) ys dx dy apart = (
  (λ at. elim (In-cases xs ys x at) [ inl l ↦ (dx.0) l | inr r ↦ apart x (inl refl) r ]),
  Distinct-append xs ys (dx.1) dy (λ z l r. apart z (inr l) r),
)

pub Distinct-filter : {X : Type 0} (p : X → Bool) (xs : List X) → Distinct xs → Distinct (filter p xs)
Distinct-filter p [] d = tt
Distinct-filter p (x ∷ xs) d = by (p x) (Distinct-filter p xs (d.1))
  where
    by : (b : Bool) → Distinct (filter p xs) → Distinct (cond b (x ∷ filter p xs) (filter p xs))
    by true h = ((λ at. (d.0) (In-filter p xs x at).0), h)
    by false h = h

pub Distinct-map : {X Y : Type 0} (f : X → Y) → ((x y : X) → f x ≡ f y → x ≡ y) → (xs : List X) → Distinct xs → Distinct (map f xs)
Distinct-map f one [] d = tt
Distinct-map f one (x ∷ xs) d = (
  (λ at. let (z, there, e) = In-map f xs (f x) at in (d.0) (subst (λ w. In w xs) (one z x e) there)),
  Distinct-map f one xs (d.1),
)

pub Distinct-flat_map : {X Y : Type 0} (f : X → List Y) → ((x : X) → Distinct (f x)) → ((x z : X) (y : Y) → In y (f x) → In y (f z) → x ≡ z) → (xs : List X) → Distinct xs → Distinct (flat_map f xs)
Distinct-flat_map f each one [] d = tt
Distinct-flat_map f each one (x ∷ xs) d =
    Distinct-append (f x) (flat_map f xs) (each x) (Distinct-flat_map f each one xs (d.1))
    (λ y l r. let (z, there, here) = In-flat_map f xs y r in (d.0) (subst (λ w. In w xs) (one z x y here l) there))

-- each element is less than those after it
abbrev pub Rising : {X : Type 0} → (X → X → Ordering) → List X → Type 0
Rising cmp [] = Unit {0}
Rising {X} cmp (x ∷ xs) = ((y : X) → In y xs → cmp x y ≡ Less) × Rising cmp xs

module _ {X : Type 0} (cmp : X → X → Ordering) (one_way : (x y : X) → cmp x y ≡ Less → cmp y x ≡ Less → ⊥) where
  -- two rising lists with the same members are one
  pub one_order : (xs ys : List X) → Rising cmp xs → Rising cmp ys → ((x : X) → In x xs → In x ys) → ((x : X) → In x ys → In x xs) → xs ≡ ys
  one_order [] [] rx ry l r = refl
  one_order [] (y ∷ ys) rx ry l r = absurd (r y (inl refl))
  one_order (x ∷ xs) [] rx ry l r = absurd (l x (inl refl))
  one_order (x ∷ xs) (y ∷ ys) rx ry l r = (λ i. heads i ∷ one_order xs ys (rx.1) (ry.1) left right i)
    where
      heads : x ≡ y
      heads = elim (l x (inl refl)) [ inl e ↦ sym e | inr at ↦ elim (r y (inl refl)) [ inl e ↦ e | inr at2 ↦ absurd (one_way x y ((rx.0) y at2) ((ry.0) x at)) ] ]

      not_self : (z : X) → cmp z z ≡ Less → ⊥
      not_self z e = one_way z z e e

      left : (z : X) → In z xs → In z ys
      left z at = elim (l z (inr at)) [ inr there ↦ there | inl e ↦ absurd (not_self z (subst (λ w. cmp w z ≡ Less) (heads ∙ e) ((rx.0) z at))) ]

      right : (z : X) → In z ys → In z xs
      right z at = elim (r z (inr at)) [ inr there ↦ there | inl e ↦ absurd (not_self z (subst (λ w. cmp w z ≡ Less) (sym heads ∙ e) ((ry.0) z at))) ]

-- ---- sums

-- a list with an element taken out
abbrev without : {X : Type 0} (x : X) (ys : List X) → In x ys → List X
without x [] at = []
without x (y ∷ ys) (inl e) = ys
without x (y ∷ ys) (inr at) = y ∷ without x ys at

sum_without : {X : Type 0} (f : X → ℕ) (x : X) (ys : List X) (at : In x ys) → sum_by f ys ≡ f x + sum_by f (without x ys at)
sum_without f x [] at = absurd at
sum_without f x (y ∷ ys) (inl e) = sum_by-cons f y ys ∙ ap (λ z. f z + sum_by f ys) e
sum_without f x (y ∷ ys) (inr at) =
    let rest = sum_without f x ys at in
    let first = sum_by-cons f y ys in
    let first2 = sum_by-cons f y (without x ys at) in
    omega arith

in_without : {X : Type 0} (x z : X) (ys : List X) (at : In x ys) → In z ys → (x ≡ z → ⊥) → In z (without x ys at)
in_without x z [] at h ne = h
in_without x z (y ∷ ys) (inl e) (inl q) ne = absurd (ne (sym e ∙ q))
in_without x z (y ∷ ys) (inl e) (inr h) ne = h
in_without x z (y ∷ ys) (inr at) (inl q) ne = inl q
in_without x z (y ∷ ys) (inr at) (inr h) ne = inr (in_without x z ys at h ne)

-- a list without repeats whose members are all members of another sums to no more
pub sum_inside : {X : Type 0} (f : X → ℕ) (xs ys : List X) → Distinct xs → ((x : X) → In x xs → In x ys) → sum_by f xs ≤ sum_by f ys
sum_inside f [] ys d h = omega arith
sum_inside f (x ∷ xs) ys d h =
    let at = h x (inl refl) in
    let rest = sum_inside f xs (without x ys at) (d.1) (λ z there. in_without x z ys at (h z (inr there)) (λ e. (d.0) (subst (λ w. In w xs) (sym e) there))) in
    let all = sum_without f x ys at in
    let head = sum_by-cons f x xs in
    omega arith
