-- A first supporter at an event begins surely at or before it, and where it is a span surely ends
-- after it.
use Rattle.std.proofs.Common.{◌≡◌, ◌∙◌, ℕ, true, ◌&&◌, pos, negsuc, List, [], map, sym, ap, subst, arith}
use Rattle.std.proofs.lemmas.Int.{ints}
use Rattle.std.specs.Prelude.{Option, Some, None, ℤ, int_le}
use Rattle.std.specs.List.{All, Contains}
use Rattle.std.specs.Option.{option_and_then}
use Rattle.std.proofs.lemmas.List.Elements.{All-nil, All-cons}
use Rattle.tmm_model.specs.declared.bound.Bound.{Bound}
use Rattle.tmm_model.specs.declared.bound.Bound.TheVariants.{Finite, Free}
use Rattle.tmm_model.specs.declared.token.TokenRow.{TokenRow}
use Rattle.tmm_model.specs.Beliefs.{contradicts_in, holder, token_of, tokens}
use Rattle.tmm_model.specs.Bounds.{bound_at_most}
use Rattle.tmm_model.specs.Maps.{built, gap}
use Rattle.tmm_model.specs.Moments.{Moment, distance, rule_of}
use Rattle.tmm_model.specs.Points.{same_name}
use Rattle.tmm_model.specs.Reasons.{supports_at, pairs_of, end_pair}
use Rattle.tmm_model.specs.Standing.{Standing, far_in}
use Rattle.tmm_model.specs.Tokens.{is_by, lasts_to, supports}
use Rattle.list_theory.proofs.Elements.{both, In-from_Contains, In-filter_map, In-map}
use Rattle.belief_theory.proofs.OneRight.{spot-token_of}
use Rattle.belief_theory.proofs.Outcomes.{first_token_in}
use Rattle.justify.specs.Lines.{IsInOrder}

-- what is before is at or before
sooner : (d : Bound) → bound_at_most d (negsuc 0) ≡ true → bound_at_most d (pos 0) ≡ true
sooner (Finite x) h = le x h
  where
    le : (x : ℤ) → int_le x (negsuc 0) ≡ true → int_le x (pos 0) ≡ true
    le x h = grind (arith, ints)
sooner Free h = cc

module _ (s : Standing) where
  lasting : (t : Moment) (ks : List (TokenRow Moment)) (k : TokenRow Moment) (e : Option Moment) → lasts_to (contradicts_in s) (distance s (far_in s.premises)) ks k t e ≡ true → All (IsInOrder (built s)) (end_pair (built s) t e)
  lasting t ks k None h = All-nil (IsInOrder (built s))
  lasting t ks k (Some e) h = All-cons (IsInOrder (built s)) (t, e) [] (sooner (gap (built s) e t) h) (All-nil (IsInOrder (built s)))

  held : (t : Moment) (fact : List ℕ) (k : Moment) → holder s (far_in s.premises) (built s).believed fact t t ≡ Some k → All (IsInOrder (built s)) (pairs_of (built s) t k)
  held t fact k e =
      let far = distance s (far_in s.premises) in
      let ks = tokens s (built s).believed in
      let (row, there, passes, is) = first_token_in s (far_in s.premises) (built s).believed (supports (contradicts_in s) far ks fact t t) k e in
      let (y, _, made) = In-filter_map (token_of s) (built s).believed row there in
      let same : y ≡ k = sym (spot-token_of s y row made) ∙ is in
      let token : token_of s k ≡ Some row = ap (token_of s) (sym same) ∙ made in
      let (fronts, lasts) = both (same_name row.fact fact && is_by far row.spot t) (lasts_to (contradicts_in s) far ks row t row.end) passes in
      let near : is_by far k t ≡ true = subst (λ z. is_by far z t ≡ true) is (both (same_name row.fact fact) (is_by far row.spot t) fronts).1 in
      All-cons (IsInOrder (built s)) (k, t) (end_pair (built s) t (option_and_then (λ r. r.end) (token_of s k))) near
      (subst (λ (o : Option (TokenRow Moment)). All (IsInOrder (built s)) (end_pair (built s) t (option_and_then (λ r. r.end) o))) (sym token) (lasting t ks row row.end lasts))

  -- **All pairs that a first supporter needs are in order.**
  pub supports_in_order : (t : Moment) (r : List ℕ) (k : Moment) → Contains (supports_at (built s) t r) k → All (IsInOrder (built s)) (pairs_of (built s) t k)
  supports_in_order t r k at =
      let found : List ℕ → Option Moment = λ fact. holder s (far_in s.premises) (built s).believed fact t t in
      let (o, there, is) = In-filter_map (λ k. k) (map found (rule_of s r).given) k (In-from_Contains (supports_at (built s) t r) k at) in
      let (fact, _, first) = In-map found (rule_of s r).given o there in
      held t fact k (first ∙ is)
