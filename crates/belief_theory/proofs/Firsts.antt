-- The first of a list, and its place among tokens.
use Rattle.std.proofs.Common.{◌≡◌, Bool, true, false, List, [], ◌∷◌, refl, sym, ◌∙◌, ap, subst, inl, inr}
use Rattle.std.specs.declared.cmp.Ordering.{Ordering}
use Rattle.std.specs.declared.cmp.Ordering.TheVariants.{Less, Equal, Greater}
use Rattle.std.specs.Ordering.{is_lt, is_gt, ordering_reverse, on}
use Rattle.tmm_model.specs.declared.token.TokenRow.{TokenRow}
use Rattle.tmm_model.specs.Firsts.{earliest}
use Rattle.tmm_model.specs.Types.{IsOrderOn}
use Rattle.list_theory.proofs.Elements.{In}

module _ {P : Type 0} {live : P → Type 0} {order : P → P → Ordering} (law : IsOrderOn live order) where
  abbrev by_spot : TokenRow P → TokenRow P → Ordering
  by_spot = on (λ k. k.spot) order

  abbrev Live : List (TokenRow P) → Type 0
  Live xs = (k : TokenRow P) → In k xs → live k.spot

  -- not after, one after the other
  pub upto : (x y z : P) → live x → live y → live z → is_gt (order x y) ≡ false → is_gt (order y z) ≡ false → is_gt (order x z) ≡ false
  upto x y z lx ly lz h g = by (order x y) refl (order y z) refl
    where
      by : (r : Ordering) → order x y ≡ r → (s : Ordering) → order y z ≡ s → is_gt (order x z) ≡ false
      by Less e Less f = ap is_gt (law.trans x y z lx ly lz e f)
      by Less e Equal f = subst (λ w. is_gt (order x w) ≡ false) (law.strict y z ly lz f) h
      by Less e Greater f = cc
      by Equal e s f = subst (λ w. is_gt (order w z) ≡ false) (sym (law.strict x y lx ly e)) g
      by Greater e s f = cc

  pub itself : (x : P) → live x → is_gt (order x x) ≡ false
  itself x lx = by (order x x) refl (law.antisymm x x lx lx)
    where
      by : (r : Ordering) → order x x ≡ r → order x x ≡ ordering_reverse (order x x) → is_gt (order x x) ≡ false
      by Less e q = ap is_gt e
      by Equal e q = ap is_gt e
      by Greater e q = let t : Greater ≡ Less = sym e ∙ q ∙ ap ordering_reverse e in cc

  not_less : (x y : P) → live x → live y → is_lt (order x y) ≡ false → is_gt (order y x) ≡ false
  not_less x y lx ly h = ap is_gt (law.antisymm y x ly lx) ∙ by (order x y) h
    where
      by : (r : Ordering) → is_lt r ≡ false → is_gt (ordering_reverse r) ≡ false
      by Less e = cc
      by Equal e = refl
      by Greater e = refl

  less : (x y : P) → is_lt (order x y) ≡ true → is_gt (order x y) ≡ false
  less x y h = by (order x y) h
    where
      by : (r : Ordering) → is_lt r ≡ true → is_gt r ≡ false
      by Less e = refl
      by Equal e = refl
      by Greater e = cc

  -- two of which neither is after the other
  pub one_spot : (x y : P) → live x → live y → is_gt (order x y) ≡ false → is_gt (order y x) ≡ false → x ≡ y
  one_spot x y lx ly h g = by (order x y) refl
    where
      by : (r : Ordering) → order x y ≡ r → x ≡ y
      by Equal e = law.strict x y lx ly e
      by Greater e = cc
      by Less e = let t : order y x ≡ Greater = law.antisymm y x ly lx ∙ ap ordering_reverse e in cc

  pub record IsLeast (k : TokenRow P) (xs : List (TokenRow P)) : Type 0 where
    pub member : In k xs
    pub below : (y : TokenRow P) → In y xs → is_gt (order k.spot y.spot) ≡ false

  pub least_is : (x : TokenRow P) (xs : List (TokenRow P)) → Live (x ∷ xs) → IsLeast (earliest by_spot x xs) (x ∷ xs)
  least_is x [] all = record { member = inl refl; below = λ y at. elim at [ inl e ↦ subst (λ z. is_gt (order x.spot z.spot) ≡ false) e (itself x.spot (all x (inl refl))) | inr n ↦ absurd n ] }
  least_is x (y ∷ ys) all =
      by (λ _. least_is y ys (λ k at. all k (inr at)))
      (λ _. least_is x ys (λ k at. elim at [ inl e ↦ all k (inl e) | inr r ↦ all k (inr (inr r)) ]))
      (is_lt (order y.spot x.spot)) refl
    where
      lx : live x.spot
      lx = all x (inl refl)

      ly : live y.spot
      ly = all y (inr (inl refl))

      by : (Unit {0} → IsLeast (earliest by_spot y ys) (y ∷ ys)) → (Unit {0} → IsLeast (earliest by_spot x ys) (x ∷ ys)) → (b : Bool) → is_lt (order y.spot x.spot) ≡ b
          → IsLeast (elim b [ true ↦ earliest by_spot y ys | false ↦ earliest by_spot x ys ]) (x ∷ y ∷ ys)
      by one two true e =
          let i = one tt in
          let m : TokenRow P = earliest by_spot y ys in
          let lm = all m (inr i.member) in
          record {
            member = inr i.member;
            below = λ z at. elim at [
              | inl q ↦ subst (λ w. is_gt (order m.spot w.spot) ≡ false) q (upto m.spot y.spot x.spot lm ly lx (i.below y (inl refl)) (less y.spot x.spot e))
              | inr r ↦ i.below z r
            ];
          }
      by one two false e =
          let i = two tt in
          let m : TokenRow P = earliest by_spot x ys in
          let member : In m (x ∷ y ∷ ys) = elim i.member [ inl q ↦ inl q | inr r ↦ inr (inr r) ] in
          let lm = all m member in
          record {
            member = member;
            below = λ z at. elim at [
              | inl q ↦ i.below z (inl q)
              | inr r ↦ elim r [
                | inl q ↦ subst (λ w. is_gt (order m.spot w.spot) ≡ false) q (upto m.spot x.spot y.spot lm lx ly (i.below x (inl refl)) (not_less y.spot x.spot ly lx e))
                | inr rr ↦ i.below z (inr rr)
              ]
            ];
          }
