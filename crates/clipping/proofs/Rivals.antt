-- Facts of other classes that contradict a token's: what clips and supports it among all tokens.
use Rattle.std.proofs.Common.{◌≡◌, ◌≢◌, ◌∙◌, ℕ, suc, ◌<◌, inl, inr, Bool, true, false, not, ◌&&◌, ◌||◌, List, [], ◌∷◌, length, IsTrue, refl, sym, ap, subst, arith}
use Rattle.std.specs.Prelude.{Option, Some, None, IsFalse, slice_index_or}
use Rattle.std.specs.List.{list_any, Contains}
use Rattle.std.specs.Cmp.Lexicographic.{bytes_decides}
use Rattle.std.proofs.lemmas.Bool.{cases_order, or_left, and_left, and_parts, false_from_ne_true, not-true, not-false}
use Rattle.std.proofs.lemmas.List.Elements.{Contains-get_or}
use Rattle.std.specs.declared.cmp.Ordering.{Ordering}
use Rattle.belief_theory.specs.FirstPlaces.{IsFirstPlace}
use Rattle.belief_theory.proofs.Rivals.{or_false}
use Rattle.tmm_model.specs.declared.bound.Bound.{Bound}
use Rattle.tmm_model.specs.declared.token.TokenRow.{TokenRow}
use Rattle.tmm_model.specs.Points.{same_name}
use Rattle.tmm_model.specs.Tokens.{of_one_class, is_by, is_before, cuts, lasts_to, supports}
use Rattle.clipping.specs.Across.{list_at, all_of, IsClassList}
use Rattle.clipping.specs.Cutters.{clips_until}
use Rattle.clipping.specs.Rivals.{are_rivals, of_rivals}
use Rattle.clipping.proofs.InLists.{any_of_all, none_of_all}

-- ---- two tests that agree

-- a list passes both alike
any_agrees : {A : Type 0} (test same : A → Bool) (xs : List A) → ((x : A) → Contains xs x → same x ≡ test x) → list_any same xs ≡ list_any test xs
any_agrees test same [] h = refl
any_agrees test same (x ∷ xs) h =
    let one : same x ≡ test x = h x (0, omega arith, refl) in
    let rest : list_any same xs ≡ list_any test xs = any_agrees test same xs (λ y at. h y (suc (at.0), omega (arith, at.1), at.2)) in
    λ i. one i || rest i

-- a first place by the one is a first place by the other
pub first_agrees : {A : Type 0} (cmp : A → A → Ordering) (test same : A → Bool) (xs : List A) → ((x : A) → Contains xs x → same x ≡ test x) → (place : Option ℕ) → IsFirstPlace cmp test xs place → IsFirstPlace cmp same xs place
first_agrees cmp test same xs h None none = λ i d lt. h (slice_index_or xs i d) (Contains-get_or xs i d lt) ∙ none i d lt
first_agrees cmp test same xs h (Some i) first = record {
  within = first.within;
  passes = λ d. h (slice_index_or xs i d) (Contains-get_or xs i d first.within) ∙ first.passes d;
  least = λ j d lt passes. first.least j d lt (sym (h (slice_index_or xs j d) (Contains-get_or xs j d lt)) ∙ passes);
}

-- where two tokens contradict each other alike, the one clips the other alike
pub clips_alike : {P : Type 0} (one other : TokenRow P → TokenRow P → Bool) (far : P → P → Bound) (k c : TokenRow P) → one k c ≡ other k c → (until : Option P) → clips_until one far k until c ≡ clips_until other far k until c
clips_alike one other far k c same None = ap (λ b. b && is_before far k.spot c.spot) same
clips_alike one other far k c same (Some q) = ap (λ b. b && is_before far k.spot c.spot && is_by far c.spot q) same

-- ---- which relation tells of two tokens

module _ {P : Type 0} (against : List ℕ → List ℕ → Bool) (k c : TokenRow P) where
  -- a class declares both, or neither is against the other
  pub one_class : ((f : List ℕ) → against f f ≡ false) → k.class ≡ c.class → of_rivals against k c ≡ of_one_class k c
  one_class irreflexive class = by (same_name k.fact c.fact) refl
    where
      by : (b : Bool) → same_name k.fact c.fact ≡ b → of_rivals against k c ≡ of_one_class k c
      by true e =
          let same : k.fact ≡ c.fact = (bytes_decides k.fact c.fact).0 e in
          let apart : against k.fact c.fact ≡ false = ap (against k.fact) (sym same) ∙ irreflexive k.fact in
          ap (λ b. of_one_class k c || b) apart ∙ or_false (of_one_class k c)
      by false e =
          let declared : of_one_class k c ≡ true = λ i. (bytes_decides k.class c.class).1 class i && not (e i) in
          or_left (of_one_class k c) (are_rivals against k c) declared ∙ sym declared

  -- no class declares both
  pub two_classes : k.class ≢ c.class → of_rivals against k c ≡ are_rivals against k c
  two_classes apart =
      let undeclared : of_one_class k c ≡ false = and_left (same_name k.class c.class) (not (same_name k.fact c.fact)) (false_from_ne_true (same_name k.class c.class) (λ e. apart ((bytes_decides k.class c.class).0 e))) in
      ap (λ b. b || are_rivals against k c) undeclared

-- ---- among all tokens

module _ {P : Type 0} (against : List ℕ → List ℕ → Bool) (irreflexive : (f : List ℕ) → against f f ≡ false) (far : P → P → Bound) (lists : List (List (TokenRow P))) (own : ℕ) (is : IsClassList lists own) (within : own < length lists)
    (k : TokenRow P) (here : Contains (list_at lists own) k) where
  -- in its own list a token is cut by those of its class
  cut_alike : (q : P) → list_any (cuts (of_rivals against) far k q) (list_at lists own) ≡ list_any (cuts of_one_class far k q) (list_at lists own)
  cut_alike q = any_agrees (cuts of_one_class far k q) (cuts (of_rivals against) far k q) (list_at lists own)
      (λ c at. clips_alike (of_rivals against) of_one_class far k c (one_class against k c irreflexive (is.same k c here at)) (Some q))

  -- in another list it is cut by those whose facts are against its own
  pub cut_elsewhere : (q : P) (i : ℕ) → i < length lists → i ≢ own → list_any (cuts (of_rivals against) far k q) (list_at lists i) ≡ list_any (cuts (are_rivals against) far k q) (list_at lists i)
  cut_elsewhere q i lt other = any_agrees (cuts (are_rivals against) far k q) (cuts (of_rivals against) far k q) (list_at lists i)
      (λ c at. clips_alike (of_rivals against) (are_rivals against) far k c (two_classes against k c (is.apart i k c lt other here at)) (Some q))

  -- what does not last in its own list does not last
  pub no_lasting : (q : P) (o : Option P) → lasts_to of_one_class far (list_at lists own) k q o ≡ false → lasts_to (of_rivals against) far (all_of lists) k q o ≡ false
  no_lasting q (Some e) h = h
  no_lasting q None h = ap not (any_of_all (cuts (of_rivals against) far k q) lists own within (cut_alike q ∙ not-false (list_any (cuts of_one_class far k q) (list_at lists own)) h))

  -- what does, and is cut in no other list, lasts
  pub lasting : (q : P) → list_any (cuts of_one_class far k q) (list_at lists own) ≡ false
      → ((i : ℕ) → i < length lists → i ≢ own → list_any (cuts (of_rivals against) far k q) (list_at lists i) ≡ false)
      → list_any (cuts (of_rivals against) far k q) (all_of lists) ≡ false
  lasting q uncut others = none_of_all (cuts (of_rivals against) far k q) lists (λ i lt. elim (cases_order i own) [
    | inl same ↦ subst (λ j. list_any (cuts (of_rivals against) far k q) (list_at lists j) ≡ false) (sym same) (cut_alike q ∙ uncut)
    | inr other ↦ others i lt (λ same. elim other [ inl less ↦ omega arith | inr more ↦ omega arith ])
  ])

  module _ (f : List ℕ) (p q : P) where
    -- what supports no fact in its own list supports none
    pub no_support : supports of_one_class far (list_at lists own) f p q k ≡ false → supports (of_rivals against) far (all_of lists) f p q k ≡ false
    no_support = by (same_name k.fact f && is_by far k.spot p) (no_lasting q k.end)
      where
        by : {x y : Bool} (b : Bool) → (x ≡ false → y ≡ false) → b && x ≡ false → b && y ≡ false
        by true h e = h e
        by false h e = refl

    -- a persistence supports where it is cut in no other list
    pub persistence_supports : (cut : Bool) → k.end ≡ None → supports of_one_class far (list_at lists own) f p q k ≡ true
        → (IsTrue cut → list_any (cuts (of_rivals against) far k q) (all_of lists) ≡ true)
        → (IsFalse cut → (i : ℕ) → i < length lists → i ≢ own → list_any (cuts (of_rivals against) far k q) (list_at lists i) ≡ false)
        → supports (of_rivals against) far (all_of lists) f p q k ≡ not cut
    persistence_supports cut no_end held is_cut uncut = by cut is_cut uncut
      where
        front : Bool
        front = same_name k.fact f && is_by far k.spot p

        parts : (front ≡ true) × (lasts_to of_one_class far (list_at lists own) k q k.end ≡ true)
        parts = and_parts front (lasts_to of_one_class far (list_at lists own) k q k.end) held

        lasts : (b : Bool) → list_any (cuts (of_rivals against) far k q) (all_of lists) ≡ b → supports (of_rivals against) far (all_of lists) f p q k ≡ not b
        lasts b e = λ i. parts.0 i && (ap (lasts_to (of_rivals against) far (all_of lists) k q) no_end ∙ ap not e) i

        in_own : list_any (cuts of_one_class far k q) (list_at lists own) ≡ false
        in_own = not-true (list_any (cuts of_one_class far k q) (list_at lists own)) (sym (ap (lasts_to of_one_class far (list_at lists own) k q) no_end) ∙ parts.1)

        by : (r : Bool) → (IsTrue r → list_any (cuts (of_rivals against) far k q) (all_of lists) ≡ true) → (IsFalse r → (i : ℕ) → i < length lists → i ≢ own → list_any (cuts (of_rivals against) far k q) (list_at lists i) ≡ false) → supports (of_rivals against) far (all_of lists) f p q k ≡ not r
        by true c u = lasts true (c refl)
        by false c u = lasts false (lasting q in_own (u refl))

  -- what clips it first in a list
  pub own_first : (cmp : TokenRow P → TokenRow P → Ordering) (until : Option P) (place : Option ℕ) → IsFirstPlace cmp (clips_until of_one_class far k until) (list_at lists own) place → IsFirstPlace cmp (clips_until (of_rivals against) far k until) (list_at lists own) place
  own_first cmp until place = first_agrees cmp (clips_until of_one_class far k until) (clips_until (of_rivals against) far k until) (list_at lists own)
      (λ c at. clips_alike (of_rivals against) of_one_class far k c (one_class against k c irreflexive (is.same k c here at)) until) place

  pub other_first : (cmp : TokenRow P → TokenRow P → Ordering) (until : Option P) (place : Option ℕ) (i : ℕ) → i < length lists → i ≢ own → IsFirstPlace cmp (clips_until (are_rivals against) far k until) (list_at lists i) place → IsFirstPlace cmp (clips_until (of_rivals against) far k until) (list_at lists i) place
  other_first cmp until place i lt other = first_agrees cmp (clips_until (are_rivals against) far k until) (clips_until (of_rivals against) far k until) (list_at lists i)
      (λ c at. clips_alike (of_rivals against) (are_rivals against) far k c (two_classes against k c (is.apart i k c lt other here at)) until) place
