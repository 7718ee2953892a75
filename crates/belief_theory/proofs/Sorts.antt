-- The sorted list is the one list in rising order with the same members.
use Rattle.std.proofs.Common.{◌≡◌, Bool, true, false, List, [], ◌∷◌, refl, sym, ◌∙◌, subst, inl, inr}
use Rattle.std.specs.Prelude.{◌⊎◌, ◌↔◌}
use Rattle.std.specs.declared.cmp.Ordering.{Ordering}
use Rattle.std.specs.declared.cmp.Ordering.TheVariants.{Less, Equal, Greater}
use Rattle.std.specs.Ordering.{is_gt, ordering_reverse}
use Rattle.tmm_model.specs.Firsts.{placed, sorted}
use Rattle.tmm_model.specs.Types.{IsOrderOn}
use Rattle.list_theory.proofs.Elements.{In}
use Rattle.list_theory.proofs.Distinct.{Distinct, Rising}

module _ {X : Type 0} {live : X → Type 0} {cmp : X → X → Ordering} (law : IsOrderOn live cmp) where
  abbrev Live : List X → Type 0
  Live xs = (x : X) → In x xs → live x

  placed_in : (x : X) (ys : List X) (z : X) → In z (placed cmp x ys) → (x ≡ z) ⊎ In z ys
  placed_in x [] z at = at
  placed_in x (y ∷ ys) z at = by (is_gt (cmp x y)) (placed_in x ys z) at
    where
      by : (g : Bool) → (In z (placed cmp x ys) → (x ≡ z) ⊎ In z ys) → In z (elim g [ true ↦ y ∷ placed cmp x ys | false ↦ x ∷ y ∷ ys ]) → (x ≡ z) ⊎ In z (y ∷ ys)
      by true again (inl e) = inr (inl e)
      by true again (inr at) = elim (again at) [ inl e ↦ inl e | inr h ↦ inr (inr h) ]
      by false again at = at

  in_placed : (x : X) (ys : List X) (z : X) → (x ≡ z) ⊎ In z ys → In z (placed cmp x ys)
  in_placed x [] z at = at
  in_placed x (y ∷ ys) z at = by (is_gt (cmp x y)) (in_placed x ys z) at
    where
      by : (g : Bool) → ((x ≡ z) ⊎ In z ys → In z (placed cmp x ys)) → (x ≡ z) ⊎ In z (y ∷ ys) → In z (elim g [ true ↦ y ∷ placed cmp x ys | false ↦ x ∷ y ∷ ys ])
      by true again (inl e) = inr (again (inl e))
      by true again (inr (inl e)) = inl e
      by true again (inr (inr h)) = inr (again (inr h))
      by false again at = at

  pub sorted_in : (xs : List X) (z : X) → In z (sorted cmp xs) ↔ In z xs
  sorted_in [] z = (λ at. at, λ at. at)
  sorted_in (x ∷ xs) z = (
    (λ at. elim (placed_in x (sorted cmp xs) z at) [ inl e ↦ inl e | inr h ↦ inr ((sorted_in xs z).0 h) ]),
    (λ at. in_placed x (sorted cmp xs) z (elim at [ inl e ↦ inl e | inr h ↦ inr ((sorted_in xs z).1 h) ])),
  )

  greater : (x y : X) → live x → live y → is_gt (cmp x y) ≡ true → cmp y x ≡ Less
  greater x y lx ly h = law.antisymm y x ly lx ∙ by (cmp x y) h
    where
      by : (r : Ordering) → is_gt r ≡ true → ordering_reverse r ≡ Less
      by Less e = cc
      by Equal e = cc
      by Greater e = refl

  not_greater : (x y : X) → live x → live y → (x ≡ y → ⊥) → is_gt (cmp x y) ≡ false → cmp x y ≡ Less
  not_greater x y lx ly ne h = by (cmp x y) refl
    where
      by : (r : Ordering) → cmp x y ≡ r → cmp x y ≡ Less
      by Less e = e
      by Equal e = absurd (ne (law.strict x y lx ly e))
      by Greater e = cc

  placed_rising : (x : X) (ys : List X) → live x → Live ys → (In x ys → ⊥) → Rising cmp ys → Rising cmp (placed cmp x ys)
  placed_rising x [] lx all out r = ((λ z at. absurd at), tt)
  placed_rising x (y ∷ ys) lx all out r = by (is_gt (cmp x y)) refl (placed_rising x ys lx (λ z at. all z (inr at)) (λ at. out (inr at)) (r.1))
    where
      ly : live y
      ly = all y (inl refl)

      by : (g : Bool) → is_gt (cmp x y) ≡ g → Rising cmp (placed cmp x ys) → Rising cmp (elim g [ true ↦ y ∷ placed cmp x ys | false ↦ x ∷ y ∷ ys ])
      by true e again = (
        (λ z at. elim (placed_in x ys z at) [ inl q ↦ subst (λ w. cmp y w ≡ Less) q (greater x y lx ly e) | inr h ↦ (r.0) z h ]),
        again,
      )
      by false e again =
          let first = not_greater x y lx ly (λ q. out (inl (sym q))) e in (
            (λ z at. elim at [ inl q ↦ subst (λ w. cmp x w ≡ Less) q first | inr h ↦ law.trans x y z lx ly (all z (inr h)) first ((r.0) z h) ]),
            r,
          )

  pub sorted_rising : (xs : List X) → Live xs → Distinct xs → Rising cmp (sorted cmp xs)
  sorted_rising [] all d = tt
  sorted_rising (x ∷ xs) all d =
      placed_rising x (sorted cmp xs) (all x (inl refl)) (λ z at. all z (inr ((sorted_in xs z).0 at))) (λ at. (d.0) ((sorted_in xs x).0 at)) (sorted_rising xs (λ z at. all z (inr at)) (d.1))
