-- Two right sets have the same members.
use Rattle.std.proofs.Common.{◌≡◌, ℕ, zero, suc, Bool, true, false, not, ◌&&◌, List, refl, sym, ◌∙◌, subst, arith}
use Rattle.std.proofs.lemmas.Int.{ints}
use Rattle.std.specs.Prelude.{Option, Some, None, ◌↔◌, ℤ, pos, negsuc, ◌<ℤ◌}
use Rattle.std.specs.List.{Contains, list_any, list_all}
use Rattle.std.specs.Cmp.{both_ways}
use Rattle.tmm_model.specs.declared.bound.Bound.{Bound}
use Rattle.tmm_model.specs.declared.token.Shape.{Shape}
use Rattle.tmm_model.specs.declared.token.Shape.TheVariants.{Event as AnEvent, Persistence as APersistence, Span as ASpan}
use Rattle.tmm_model.specs.declared.token.TokenRow.{TokenRow}
use Rattle.tmm_model.specs.Moments.{Moment, At, After, Distances, distance, early, rule_of}
use Rattle.tmm_model.specs.Points.{same_name}
use Rattle.tmm_model.specs.Standing.{Standing}
use Rattle.tmm_model.specs.Tokens.{is_by, clips, cuts, lasts_to, supports}
use Rattle.tmm_model.specs.Beliefs.{rules_at, is_free, is_of, contradicts_in, token_at, token_of, tokens, supported}
use Rattle.belief_theory.specs.Right.{Occurs, IsRightTo, IsTimed}
use Rattle.list_theory.proofs.Elements.{both, In, In-from_Contains, Contains-from_In, list_any-In, In-list_any, In-filter_map, filter_map-In}

-- a token stands at its own occurrence
pub spot-token_of : (s : Standing) (x : Moment) (k : TokenRow Moment) → token_of s x ≡ Some k → k.spot ≡ x
spot-token_of s x k h = by (is_of s x) h
  where
    by : (o : Option (Shape × List ℕ)) → (elim o [ None ↦ None | Some y ↦ token_at s x y ]) ≡ Some k → k.spot ≡ x
    by None h = cc
    by (Some (AnEvent, f)) h = cc
    by (Some (APersistence, f)) h = cc
    by (Some (ASpan, f)) h = cc

-- each occurrence of a right set is one of the list
pub occurs : (s : Standing) (far : Distances) (n : ℕ) (b : List Moment) → IsRightTo s far n b → (x : Moment) → Contains b x → Occurs s x
occurs s far n b right (At p) h = (right (At p)).0 h
occurs s far n b right (After t r) h = let f = (right (After t r)).0 h in (occurs s far n b right t f.believed, f.stands)

module _ (s : Standing) (far : Distances) (timed : IsTimed s far) where
  abbrev gap : Moment → Moment → Bound
  gap = distance s far

  -- what b and c have below n is the same
  pub record Agree (n : ℕ) (b c : List Moment) : Type 0 where
    pub into : (x : Moment) → Occurs s x → early s far x <ℤ pos n → Contains b x → Contains c x
    pub back : (x : Moment) → Occurs s x → early s far x <ℤ pos n → Contains c x → Contains b x
    pub left : (x : Moment) → Contains b x → Occurs s x
    pub right : (x : Moment) → Contains c x → Occurs s x

  pub turned : {n : ℕ} {b c : List Moment} → Agree n b c → Agree n c b
  turned a = record { into = a.back; back = a.into; left = a.right; right = a.left }

  -- a token of c that begins surely at or before t is one of b
  token_back : (n : ℕ) (b c : List Moment) → Agree n b c → (t : Moment) → Occurs s t → early s far t <ℤ pos n → (k : TokenRow Moment) → In k (tokens s c) → is_by gap k.spot t ≡ true → In k (tokens s b)
  token_back n b c a t occurs_t below k at near =
      let (x, there, e) = In-filter_map (token_of s) c k at in
      let same = spot-token_of s x k e in
      let here = Contains-from_In c x there in
      let occurs_x = a.right x here in
      let near_x : is_by gap x t ≡ true = subst (λ z. is_by gap z t ≡ true) same near in
      let order = timed.in_order x t occurs_x occurs_t near_x in
      let early_x : early s far x <ℤ pos n = omega (arith, ints) in
      filter_map-In (token_of s) b x k (In-from_Contains b x (a.back x occurs_x early_x here)) e

  lasts_kept : (n : ℕ) (b c : List Moment) → Agree n b c → (t : Moment) → Occurs s t → early s far t <ℤ pos n → (k : TokenRow Moment) (o : Option Moment) → lasts_to (contradicts_in s) gap (tokens s b) k t o ≡ true → lasts_to (contradicts_in s) gap (tokens s c) k t o ≡ true
  lasts_kept n b c a t occurs_t below k (Some e) h = h
  lasts_kept n b c a t occurs_t below k None h = by (list_any (cuts (contradicts_in s) gap k t) (tokens s c)) refl
    where
      found : list_any (cuts (contradicts_in s) gap k t) (tokens s c) ≡ true → list_any (cuts (contradicts_in s) gap k t) (tokens s b) ≡ true
      found e =
          let (row, at, cut) = list_any-In (cuts (contradicts_in s) gap k t) (tokens s c) e in
          let near = (both (clips (contradicts_in s) gap k row) (is_by gap row.spot t) cut).1 in
          In-list_any (cuts (contradicts_in s) gap k t) (tokens s b) row (token_back n b c a t occurs_t below row at near) cut

      by : (r : Bool) → list_any (cuts (contradicts_in s) gap k t) (tokens s c) ≡ r → not r ≡ true
      by false e = refl
      by true e = let f : list_any (cuts (contradicts_in s) gap k t) (tokens s b) ≡ true = found e in let g : not (list_any (cuts (contradicts_in s) gap k t) (tokens s b)) ≡ true = h in cc

  pub supported_kept : (n : ℕ) (b c : List Moment) → Agree n b c → (t : Moment) → Occurs s t → early s far t <ℤ pos n → (f : List ℕ) → supported s far b t f ≡ true → supported s far c t f ≡ true
  supported_kept n b c a t occurs_t below f h =
      let (k, at, holds) = list_any-In (supports (contradicts_in s) gap (tokens s b) f t t) (tokens s b) h in
      let outer = both (same_name k.fact f && is_by gap k.spot t) (lasts_to (contradicts_in s) gap (tokens s b) k t k.end) holds in
      let near = (both (same_name k.fact f) (is_by gap k.spot t) (outer.0)).1 in
      let lasting = lasts_kept n b c a t occurs_t below k k.end (outer.1) in
      In-list_any (supports (contradicts_in s) gap (tokens s c) f t t) (tokens s c) k
      (token_back n c b (turned a) t occurs_t below k at near)
      (λ i. outer.0 i && lasting i)

  -- so each fact is supported at t alike, and each rule is free alike
  pub supported_same : (n : ℕ) (b c : List Moment) → Agree n b c → (t : Moment) → Occurs s t → early s far t <ℤ pos n → (f : List ℕ) → supported s far b t f ≡ supported s far c t f
  supported_same n b c a t occurs_t below f =
      both_ways (supported s far b t f) (supported s far c t f) (supported_kept n b c a t occurs_t below f) (supported_kept n c b (turned a) t occurs_t below f)

  pub free_same : (n : ℕ) (b c : List Moment) → Agree n b c → (t : Moment) → Occurs s t → early s far t <ℤ pos n → (r : List ℕ) → is_free s far b t r ≡ is_free s far c t r
  free_same n b c a t occurs_t below r =
      λ i. list_all (λ f. supported_same n b c a t occurs_t below f i) (rule_of s r).given && not (list_any (λ f. supported_same n b c a t occurs_t below f i) (rule_of s r).exceptions)

  pub free_kept : (n : ℕ) (b c : List Moment) → Agree n b c → (t : Moment) → Occurs s t → early s far t <ℤ pos n → (r : List ℕ) → is_free s far b t r ≡ true → is_free s far c t r ≡ true
  free_kept n b c a t occurs_t below r h = sym (free_same n b c a t occurs_t below r) ∙ h

  pub later : (t : Moment) (r : List ℕ) → Occurs s t → Contains (rules_at s t) r → early s far t <ℤ early s far (After t r)
  later t r occurs_t stands =
      let delay = timed.delayed t r stands in
      subst (λ z. early s far t <ℤ z) (sym (timed.due_is t r occurs_t stands)) (omega (arith, ints))

  module _ (h : ℕ) (b c : List Moment) (right_b : IsRightTo s far h b) (right_c : IsRightTo s far h c) where
    step : (b c : List Moment) → IsRightTo s far h b → IsRightTo s far h c → (n : ℕ) → Agree n b c → (x : Moment) → Occurs s x → early s far x <ℤ pos (suc n) → Contains b x → Contains c x
    step b c right_b right_c n a (At p) occurs_x below at = (right_c (At p)).1 ((right_b (At p)).0 at)
    step b c right_b right_c n a (After t r) occurs_x below at =
        let f = (right_b (After t r)).0 at in
        let longer = later t r (occurs_x.0) (occurs_x.1) in
        let early_t : early s far t <ℤ pos n = omega (arith, ints) in
        (right_c (After t r)).1 (record {
          believed = a.into t (occurs_x.0) early_t f.believed;
          stands = f.stands;
          in_time = f.in_time;
          free = free_kept n b c a t (occurs_x.0) early_t r f.free;
        })

    agree : (n : ℕ) → Agree n b c
    agree zero = record {
      into = λ x occurs_x below _. let first = timed.not_before_start x occurs_x in absurd (omega (arith, ints));
      back = λ x occurs_x below _. let first = timed.not_before_start x occurs_x in absurd (omega (arith, ints));
      left = occurs s far h b right_b;
      right = occurs s far h c right_c;
    }
    agree (suc n) = record {
      into = step b c right_b right_c n (agree n);
      back = step c b right_c right_b n (turned (agree n));
      left = occurs s far h b right_b;
      right = occurs s far h c right_c;
    }

    above : (z : ℤ) → (n : ℕ) × (z <ℤ pos n)
    above (pos m) = (suc m, omega (arith, ints))
    above (negsuc m) = (0, omega (arith, ints))

    -- two right sets have the same members
    pub one_right : (x : Moment) → Contains b x ↔ Contains c x
    one_right x =
        let (n, below) = above (early s far x) in (
          (λ at. (agree n).into x (occurs s far h b right_b x at) below at),
          (λ at. (agree n).back x (occurs s far h c right_c x at) below at),
        )
