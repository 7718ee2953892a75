-- The outcome of a decision, and what frees its rule.
use Rattle.std.proofs.Common.{◌≡◌, ℕ, suc, Bool, true, false, not, ◌&&◌, ◌||◌, List, [], ◌∷◌, map, refl, subst, inl, inr, arith}
use Rattle.std.proofs.lemmas.Bool.{not-true}
use Rattle.std.proofs.lemmas.Int.{ints}
use Rattle.std.specs.Prelude.{◌↔◌, Option, Some, None, is_none, ℤ, pos, ◌≤ℤ◌, int_le, filter, cond}
use Rattle.std.specs.List.{list_any, list_all, filter_map}
use Rattle.std.specs.Option.{option_map}
use Rattle.std.specs.Ordering.{on, is_lt}
use Rattle.std.specs.declared.cmp.Ordering.{Ordering}
use Rattle.tmm_model.specs.declared.token.TokenRow.{TokenRow}
use Rattle.tmm_model.specs.Beliefs.{tokens, contradicts_in, supported, is_free, due, first_token, holder, supporters, against}
use Rattle.belief_theory.specs.Outcomes.{Outcome, fires, blocked, barred, beyond, first_without, first_with, outcome}
use Rattle.tmm_model.specs.Firsts.{earliest, first}
use Rattle.tmm_model.specs.Moments.{Moment, Distances, distance, occ_cmp, rule_of}
use Rattle.tmm_model.specs.Standing.{Standing}
use Rattle.tmm_model.specs.Tokens.{supports}
use Rattle.list_theory.proofs.Elements.{both, In, In-filter}

-- ---- the first of those that pass

-- one is first exactly where one passes
first_passes : {X : Type 0} (cmp : X → X → Ordering) (test : X → Bool) (xs : List X) → (first cmp (filter test xs) ≡ None) ↔ (list_any test xs ≡ false)
first_passes cmp test [] = (λ _. refl, λ _. refl)
first_passes cmp test (x ∷ xs) = by (test x) (first_passes cmp test xs)
  where
    by : (b : Bool) → (first cmp (filter test xs) ≡ None) ↔ (list_any test xs ≡ false) → (first cmp (cond b (x ∷ filter test xs) (filter test xs)) ≡ None) ↔ ((b || list_any test xs) ≡ false)
    by true again = (λ e. cc, λ e. cc)
    by false again = again

earliest_in : {X : Type 0} (cmp : X → X → Ordering) (x : X) (xs : List X) → In (earliest cmp x xs) (x ∷ xs)
earliest_in cmp x [] = inl refl
earliest_in cmp x (y ∷ ys) = by (is_lt (cmp y x)) (earliest_in cmp y ys) (earliest_in cmp x ys)
  where
    by : (b : Bool) → In (earliest cmp y ys) (y ∷ ys) → In (earliest cmp x ys) (x ∷ ys) → In (elim b [ true ↦ earliest cmp y ys | false ↦ earliest cmp x ys ]) (x ∷ y ∷ ys)
    by true one two = inr one
    by false one two = elim two [ inl e ↦ inl e | inr at ↦ inr (inr at) ]

pub first_in : {X : Type 0} (cmp : X → X → Ordering) (xs : List X) (x : X) → first cmp xs ≡ Some x → In x xs
first_in cmp [] x e = cc
first_in cmp (y ∷ ys) x e = let same : earliest cmp y ys ≡ x = cc in subst (λ z. In z (y ∷ ys)) same (earliest_in cmp y ys)

pub none_or : {X Y : Type 0} (f : X → Y) (o : Option X) → (option_map f o ≡ None) ↔ (o ≡ None)
none_or f None = (λ _. refl, λ _. refl)
none_or f (Some x) = (λ e. cc, λ e. cc)

module _ (s : Standing) (far : Distances) (b : List Moment) where
  -- the first token that passes is one of b's tokens
  pub first_token_in : (test : TokenRow Moment → Bool) (x : Moment) → first_token s far b test ≡ Some x → (k : TokenRow Moment) × In k (tokens s b) × (test k ≡ true) × (k.spot ≡ x)
  first_token_in test x e = by (first (on (λ k. k.spot) (occ_cmp s far)) (filter test (tokens s b))) refl e
    where
      by : (o : Option (TokenRow Moment)) → first (on (λ k. k.spot) (occ_cmp s far)) (filter test (tokens s b)) ≡ o → option_map (λ k. k.spot) o ≡ Some x → (k : TokenRow Moment) × In k (tokens s b) × (test k ≡ true) × (k.spot ≡ x)
      by None f e = cc
      by (Some k) f e =
          let (at, passes) = In-filter test (tokens s b) k (first_in (on (λ k. k.spot) (occ_cmp s far)) (filter test (tokens s b)) k f) in
          (k, at, passes, cc)

  -- there is none exactly where none passes
  pub no_first_token : (test : TokenRow Moment → Bool) → (first_token s far b test ≡ None) ↔ (list_any test (tokens s b) ≡ false)
  no_first_token test =
      let one = none_or (λ k. k.spot) (first (on (λ k. k.spot) (occ_cmp s far)) (filter test (tokens s b))) in
      let two = first_passes (on (λ k. k.spot) (occ_cmp s far)) test (tokens s b) in
      (λ e. two.0 (one.0 e), λ e. one.1 (two.1 e))

  -- a fact has a first supporter exactly where it is supported
  pub no_holder : (t : Moment) (fact : List ℕ) → (holder s far b fact t t ≡ None) ↔ (supported s far b t fact ≡ false)
  no_holder t fact = no_first_token (supports (contradicts_in s) (distance s far) (tokens s b) fact t t)

  -- **All antecedents have a first supporter exactly where all are supported.**
  pub none_without : (t : Moment) (facts : List (List ℕ)) → (first_without (map (λ fact. holder s far b fact t t) facts) ≡ None) ↔ (list_all (supported s far b t) facts ≡ true)
  none_without t [] = (λ _. refl, λ _. refl)
  none_without t (f ∷ facts) = by (holder s far b f t t) refl (supported s far b t f) refl (no_holder t f) (none_without t facts)
    where
      by : (o : Option Moment) → holder s far b f t t ≡ o → (v : Bool) → supported s far b t f ≡ v
          → (holder s far b f t t ≡ None) ↔ (supported s far b t f ≡ false)
          → (first_without (map (λ fact. holder s far b fact t t) facts) ≡ None) ↔ (list_all (supported s far b t) facts ≡ true)
          → (first_without (o ∷ map (λ fact. holder s far b fact t t) facts) ≡ None) ↔ ((v && list_all (supported s far b t) facts) ≡ true)
      by None e true g one rest = let no : supported s far b t f ≡ false = one.0 e in cc
      by None e false g one rest = (λ h. cc, λ h. cc)
      by (Some k) e false g one rest = let no : holder s far b f t t ≡ None = one.1 g in cc
      by (Some k) e true g one rest =
          let other = none_or suc (first_without (map (λ fact. holder s far b fact t t) facts)) in
          (λ h. rest.0 (other.0 h), λ h. other.1 (rest.1 h))

  -- **No exception has a first supporter exactly where none is supported.**
  pub none_with : (t : Moment) (facts : List (List ℕ)) → (first_with (map (λ fact. holder s far b fact t t) facts) ≡ None) ↔ (list_any (supported s far b t) facts ≡ false)
  none_with t [] = (λ _. refl, λ _. refl)
  none_with t (f ∷ facts) = by (holder s far b f t t) refl (supported s far b t f) refl (no_holder t f) (none_with t facts)
    where
      by : (o : Option Moment) → holder s far b f t t ≡ o → (v : Bool) → supported s far b t f ≡ v
          → (holder s far b f t t ≡ None) ↔ (supported s far b t f ≡ false)
          → (first_with (map (λ fact. holder s far b fact t t) facts) ≡ None) ↔ (list_any (supported s far b t) facts ≡ false)
          → (first_with (o ∷ map (λ fact. holder s far b fact t t) facts) ≡ None) ↔ ((v || list_any (supported s far b t) facts) ≡ false)
      by (Some k) e true g one rest = (λ h. cc, λ h. cc)
      by (Some k) e false g one rest = let no : holder s far b f t t ≡ None = one.1 g in cc
      by None e true g one rest = let no : supported s far b t f ≡ false = one.0 e in cc
      by None e false g one rest =
          let other = none_or suc (first_with (map (λ fact. holder s far b fact t t) facts)) in
          (λ h. rest.0 (other.0 h), λ h. other.1 (rest.1 h))

  -- so it is told whether none is
  pub is_open : (t : Moment) (facts : List (List ℕ)) → is_none (first_with (map (λ fact. holder s far b fact t t) facts)) ≡ not (list_any (supported s far b t) facts)
  is_open t facts = by (first_with (map (λ fact. holder s far b fact t t) facts)) (list_any (supported s far b t) facts) (none_with t facts)
    where
      by : (o : Option ℕ) (v : Bool) → (o ≡ None) ↔ (v ≡ false) → is_none o ≡ not v
      by None true h = let e : true ≡ false = h.0 refl in cc
      by None false h = refl
      by (Some place) true h = refl
      by (Some place) false h = let e : Some place ≡ None = h.1 refl in cc

  -- **A rule is free exactly where all its antecedents have a first supporter and no exception has
  -- one.**
  pub free_exactly : (t : Moment) (r : List ℕ)
      → ((first_without (supporters s far b t r) ≡ None) × (first_with (against s far b t r) ≡ None)) ↔ (is_free s far b t r ≡ true)
  free_exactly t r =
      let all = none_without t (rule_of s r).given in
      let none = none_with t (rule_of s r).exceptions in (
        (λ h. (let held = all.0 h.0 in let open_ = none.0 h.1 in λ i. held i && not (open_ i))),
        (λ h. (let parts = both (list_all (supported s far b t) (rule_of s r).given) (not (list_any (supported s far b t) (rule_of s r).exceptions)) h in
            (all.1 parts.0, none.1 (not-true (list_any (supported s far b t) (rule_of s r).exceptions) parts.1)))),
      )

  -- **A decision fires exactly where its effect is due by the horizon and its rule is free.**
  pub fires_exactly : (t : Moment) (r : List ℕ) → ((ks : List Moment) × (outcome s far b t r ≡ fires ks)) ↔ ((due s far t r ≤ℤ pos s.horizon) × (is_free s far b t r ≡ true))
  fires_exactly t r = by (int_le (due s far t r) (pos s.horizon)) refl (first_without (supporters s far b t r)) refl (first_with (against s far b t r)) refl
    where
      free : ((first_without (supporters s far b t r) ≡ None) × (first_with (against s far b t r) ≡ None)) ↔ (is_free s far b t r ≡ true)
      free = free_exactly t r

      in_time : (z : ℤ) (h : ℕ) → int_le z (pos h) ≡ true → z ≤ℤ pos h
      in_time z h e = grind (arith, ints)

      not_later : (z : ℤ) (h : ℕ) → int_le z (pos h) ≡ false → z ≤ℤ pos h → ⊥
      not_later z h e g = grind (arith, ints)

      by : (v : Bool) → int_le (due s far t r) (pos s.horizon) ≡ v → (o : Option ℕ) → first_without (supporters s far b t r) ≡ o
          → (p : Option ℕ) → first_with (against s far b t r) ≡ p
          → ((ks : List Moment)
          × (elim v as (λ _. Outcome) [
            | false ↦ beyond
            | true ↦ elim o as (λ _. Outcome) [
              | Some place ↦ blocked place
              | None ↦ elim p as (λ _. Outcome) [ Some place ↦ barred place | None ↦ fires (filter_map (λ k. k) (supporters s far b t r)) ]
            ]
          ] ≡ fires ks))
          ↔ ((due s far t r ≤ℤ pos s.horizon) × (is_free s far b t r ≡ true))
      by false e o f p q = (λ h. let g : beyond ≡ fires h.0 = h.1 in cc, λ h. absurd (not_later (due s far t r) s.horizon e h.0))
      by true e (Some place) f p q = (λ h. let g : blocked place ≡ fires h.0 = h.1 in cc, λ h. let g : first_without (supporters s far b t r) ≡ None = (free.1 h.1).0 in cc)
      by true e None f (Some place) q = (λ h. let g : barred place ≡ fires h.0 = h.1 in cc, λ h. let g : first_with (against s far b t r) ≡ None = (free.1 h.1).1 in cc)
      by true e None f None q = (λ h. (in_time (due s far t r) s.horizon e, free.0 (f, q)), λ h. (filter_map (λ k. k) (supporters s far b t r), refl))
