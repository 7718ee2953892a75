-- Where the tokens that pass are those of rows: some token passes exactly where some row does, and
-- the first of the rows is the first of the tokens.
use Rattle.std.proofs.Common.{◌≡◌, ℕ, Bool, true, false, List, [], ◌∷◌, refl, sym, ◌∙◌, ap, subst, inl}
use Rattle.std.specs.Prelude.{Option, Some, None, IsTrue, filter, slice_index_or}
use Rattle.std.specs.List.{list_any}
use Rattle.std.specs.Option.{option_map}
use Rattle.std.specs.declared.cmp.Ordering.{Ordering}
use Rattle.std.specs.Ordering.{is_gt, on}
use Rattle.std.proofs.lemmas.List.{get_or_default}
use Rattle.std.proofs.lemmas.List.Elements.{Contains-get_or}
use Rattle.tmm_model.specs.declared.token.TokenRow.{TokenRow}
use Rattle.tmm_model.specs.Firsts.{earliest, first}
use Rattle.tmm_model.specs.Types.{IsOrderOn}
use Rattle.belief_theory.specs.FirstPlaces.{IsFirstPlace}
use Rattle.list_theory.proofs.Elements.{In, In-from_Contains, Contains-from_In, In-filter, filter-In, list_any-In, In-list_any}
use Rattle.belief_theory.proofs.Firsts.{least_is, one_spot}

module _ {P Q : Type 0} (cmp : P → P → Ordering) (order : Q → Q → Ordering) (go : TokenRow P → TokenRow Q) (rows : List (TokenRow P)) (ks : List (TokenRow Q))
    (test : TokenRow P → Bool) (passes : TokenRow Q → Bool) where
  -- the tokens that pass are those of the rows that pass, in the same order
  pub record IsSame : Type 0 where
    pub ranked : (a b : TokenRow P) → In a rows → In b rows → cmp a.spot b.spot ≡ order (go a).spot (go b).spot
    pub tested : (a : TokenRow P) → In a rows → test a ≡ passes (go a)
    pub there : (a : TokenRow P) → In a rows → In (go a) ks
    pub own : (k : TokenRow Q) → In k ks → passes k ≡ true → (a : TokenRow P) × In a rows × (go a ≡ k)

  -- some row passes exactly where some token does
  pub some_of_rows : IsSame → list_any test rows ≡ list_any passes ks
  some_of_rows same = by (list_any test rows) (list_any passes ks) refl refl
    where
      by : (u v : Bool) → list_any test rows ≡ u → list_any passes ks ≡ v → list_any test rows ≡ list_any passes ks
      by true true e g = e ∙ sym g
      by false false e g = e ∙ sym g
      by true false e g =
          let (a, at, passing) = list_any-In test rows e in
          let some : list_any passes ks ≡ true = In-list_any passes ks (go a) (same.there a at) (sym (same.tested a at) ∙ passing) in
          cc
      by false true e g =
          let (k, at, passed) = list_any-In passes ks g in
          let (a, there, is) = same.own k at passed in
          let some : list_any test rows ≡ true = In-list_any test rows a there (same.tested a there ∙ ap passes is ∙ passed) in
          cc

  abbrev by_order : TokenRow Q → TokenRow Q → Ordering
  by_order = on (λ k. k.spot) order

  module _ {live : Q → Type 0} (law : IsOrderOn live order) (all : (k : TokenRow Q) → In k ks → live k.spot) (same : IsSame) where
    -- the first of the tokens that pass stands at the place of the first row that does
    pub first_of_rows : (place : Option ℕ) → IsFirstPlace (on (λ k. k.spot) cmp) test rows place
        → (d : TokenRow P) → option_map (λ k. k.spot) (first by_order (filter passes ks)) ≡ option_map (λ i. (go (slice_index_or rows i d)).spot) place
    first_of_rows None h d = by (filter passes ks) refl
      where
        by : (ys : List (TokenRow Q)) → filter passes ks ≡ ys → option_map (λ k. k.spot) (first by_order ys) ≡ None
        by [] e = refl
        by (y ∷ ys) e =
            let (at, passed) = In-filter passes ks y (subst (In y) (sym e) (inl refl)) in
            let (a, there, is) = same.own y at passed in
            let (k, lt, row) = Contains-from_In rows a there in
            let fails : test a ≡ false = subst (λ z. test z ≡ false) row (h k a lt) in
            let tested : test a ≡ true = same.tested a there ∙ ap passes is ∙ passed in
            cc
    first_of_rows (Some i) h d = by (filter passes ks) refl
      where
        a : TokenRow P
        a = slice_index_or rows i d

        here : In a rows
        here = In-from_Contains rows a (Contains-get_or rows i d h.within)

        x : TokenRow Q
        x = go a

        kept : In x (filter passes ks)
        kept = filter-In passes ks x (same.there a here) (sym (same.tested a here) ∙ h.passes d)

        by : (ys : List (TokenRow Q)) → filter passes ks ≡ ys → option_map (λ k. k.spot) (first by_order ys) ≡ Some x.spot
        by [] e = absurd (subst (In x) e kept)
        by (y ∷ ys) e =
            let l = least_is law y ys (λ k at. all k (In-filter passes ks k (subst (In k) (sym e) at)).0) in
            let m : TokenRow Q = earliest by_order y ys in
            let (there, passed) = In-filter passes ks m (subst (In m) (sym e) l.member) in
            let (c, among, is) = same.own m there passed in
            let (k, lt, row) = Contains-from_In rows c among in
            let is_d : slice_index_or rows k d ≡ c = get_or_default rows k d c lt ∙ row in
            let passing : test c ≡ true = same.tested c among ∙ ap passes is ∙ passed in
            let not_before : is_gt (cmp a.spot c.spot) ≡ false = subst (λ z. is_gt (cmp a.spot z.spot) ≡ false) is_d (h.least k d lt (subst (λ z. IsTrue (test z)) (sym is_d) passing)) in
            let not_after : is_gt (order x.spot m.spot) ≡ false = subst (λ z. is_gt (order x.spot z.spot) ≡ false) is (ap is_gt (sym (same.ranked a c here among)) ∙ not_before) in
            ap Some (one_spot law m.spot x.spot (all m there) (all x (same.there a here)) (l.below x (subst (In x) e kept)) not_after)
