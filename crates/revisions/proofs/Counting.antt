-- How many decisions are made: at most those that are touched, and at least those that changed.
use Rattle.std.proofs.Common.{◌≡◌, ◌∙◌, ℕ, ◌+◌, ◌≤◌, Bool, true, false, List, [], ◌∷◌, length, refl, sym, inl, inr, arith}
use Rattle.std.specs.Prelude.{ℤ, filter, cond, sum_by}
use Rattle.std.specs.List.{count_by}
use Rattle.std.proofs.lemmas.List.Sums.{sum_by-cons}
use Rattle.belief_theory.specs.Outcomes.{Outcome}
use Rattle.tmm_model.specs.Moments.{Moment}
use Rattle.list_theory.proofs.Elements.{In, In-filter}
use Rattle.list_theory.proofs.Distinct.{Distinct, Distinct-filter, sum_inside}
use Rattle.revisions.specs.Revisions.{Revision, IsLawful}
use Rattle.revisions.specs.Keeping.{IsKeeping}
use Rattle.revisions.specs.Laws.{AreDecisions, TellsChanged}
use Rattle.revisions.proofs.Agreeing.{ended}

abbrev one_of : Bool → ℕ
one_of b = cond b 1 0

one_passes : (b : Bool) → b ≡ true → one_of b ≡ 1
one_passes true e = refl
one_passes false e = cc

module _ {X : Type 0} where
  -- all pass
  pub count_all : (p : X → Bool) (xs : List X) → ((x : X) → In x xs → p x ≡ true) → count_by p xs ≡ length xs
  count_all p [] h = refl
  count_all p (x ∷ xs) h =
      let first = one_passes (p x) (h x (inl refl)) in
      let rest = count_all p xs (λ y at. h y (inr at)) in
      let sum = sum_by-cons (λ y. one_of (p y)) x xs in
      omega (arith, first, rest, sum)

  -- what passes, each as one
  pub count_filter : (p : X → Bool) (xs : List X) → count_by p xs ≡ length (filter p xs)
  count_filter p [] = refl
  count_filter p (x ∷ xs) = sum_by-cons (λ y. one_of (p y)) x xs ∙ by (p x) (count_filter p xs)
    where
      by : (b : Bool) → count_by p xs ≡ length (filter p xs) → one_of b + count_by p xs ≡ length (cond b (x ∷ filter p xs) (filter p xs))
      by true e = omega (arith, e)
      by false e = omega (arith, e)

  pub length_inside : (xs ys : List X) → Distinct xs → ((x : X) → In x xs → In x ys) → length xs ≤ length ys
  length_inside xs ys d h = let a = ones xs in let b = ones ys in let c = sum_inside (λ _. 1) xs ys d h in omega (arith, a, b, c)
    where
      ones : (zs : List X) → sum_by (λ _. 1) zs ≡ length zs
      ones [] = refl
      ones (z ∷ zs) = let e = ones zs in let f = sum_by-cons (λ (_ : X). 1) z zs in omega (arith, e, f)

module _ (g : Revision) (b : List Moment) (kept : Moment → List ℕ → Outcome) (queued : Moment → List ℕ → Type 0) (taken all : List (Moment × List ℕ)) (d : ℤ)
    (k : IsKeeping g b kept queued taken d) (decisions : AreDecisions g all) where
  -- **No more are made than are touched.**
  pub at_most : length taken ≤ count_by (λ e. g.touched e.0 e.1) all
  at_most =
      let each = count_all (λ (e : Moment × List ℕ). g.touched e.0 e.1) taken (λ e at. (k.made e.0 e.1 at).touched) in
      let inside = sum_inside (λ (e : Moment × List ℕ). one_of (g.touched e.0 e.1)) taken all k.once (λ e at. (decisions.each e.0 e.1).1 ((k.made e.0 e.1 at).believed, (k.made e.0 e.1 at).stands)) in
      omega (arith, each, inside)

  module _ (laws : IsLawful g) (none : (t : Moment) (r : List ℕ) → queued t r → ⊥) (test : Moment × List ℕ → Bool) (tells : TellsChanged g test) where
    was_made : (t : Moment) (r : List ℕ) → In (t, r) all → test (t, r) ≡ true → In (t, r) taken
    was_made t r at changed =
        let d_at = (decisions.each t r).0 at in
        let end = ended g laws b kept queued taken d k none in
        let live = (end.0 t).1 d_at.0 in
        elim (k.first t r live d_at.1) [
          | inl made ↦ made
          | inr before ↦ elim before [
            | inl old ↦ (let same : test (t, r) ≡ false = tells.unchanged t r old.0 (sym old.1 ∙ end.1 t r live d_at.1) in cc)
            | inr new ↦ absurd (none t r new.1)
          ]
        ]

    -- **All that changed are made.**
    pub at_least : count_by test all ≤ length taken
    at_least =
        let counted = count_filter test all in
        let inside = length_inside (filter test all) taken (Distinct-filter test all decisions.once)
        (λ e at. let h = In-filter test all e at in was_made e.0 e.1 h.0 h.1) in
        omega (arith, counted, inside)
