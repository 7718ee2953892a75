-- A decision keeps its outcome where points moved, but none of which it needs to know.
use Rattle.std.proofs.Common.{◌≡◌, ◌∙◌, ℕ, Bool, true, false, ◌&&◌, List, refl, sym, ap, subst, inl, inr}
use Rattle.std.specs.Prelude.{◌+ℤ◌, int_le, pos, negsuc}
use Rattle.std.specs.Ordering.{int_cmp, nat_cmp, ordering_then}
use Rattle.std.specs.Cmp.Lexicographic.{slice_cmp}
use Rattle.tmm_model.specs.declared.token.TokenRow.{TokenRow}
use Rattle.tmm_model.specs.Bounds.{bound_at_most}
use Rattle.tmm_model.specs.Beliefs.{contradicts_in}
use Rattle.tmm_model.specs.Maps.{TimeMap, gap}
use Rattle.tmm_model.specs.Moments.{Moment, RuleText, read_by, rule_of, negated, printed}
use Rattle.tmm_model.specs.Tokens.{is_before, clips}
use Rattle.list_theory.proofs.Elements.{In}
use Rattle.belief_theory.proofs.Rivals.{HasClass, contradicts_alike}
use Rattle.belief_theory.proofs.Untouched.{class_of_token, watched_token}
use Rattle.spots.specs.OfLists.{map_of}
use Rattle.revisions.specs.Shifts.{IsShifted, ShiftsKeep}
use Rattle.revisions.specs.Walls.{AlikeBut}
use Rattle.revisions.proofs.Walls.{outcomes_stay_but}

-- what clips a token that stays and is of a fact that the rule reads, if it stays itself, does so
-- in both maps
clipped_alike : (stays : TokenRow Moment → Type 0) (m n : TimeMap) (t : Moment) (r : List ℕ) → IsShifted stays m n t r → (k c : TokenRow Moment) → stays k → stays c
    → In k.fact (read_by (rule_of n.list r)) → clips (contradicts_in m.list) (gap m) k c ≡ clips (contradicts_in n.list) (gap n) k c
clipped_alike stays m n t r s k c on_k on_c given = ap (λ b. b && is_before (gap m) k.spot c.spot) same ∙ by (contradicts_in n.list k c) refl
  where
    was : (d : TokenRow Moment) → stays d → HasClass m.list d
    was d on = class_of_token m d (watched_token m r d (s.back d (s.reads d on)))

    now : (d : TokenRow Moment) → stays d → HasClass n.list d
    now d on = class_of_token n d (watched_token n r d (s.reads d on))

    same : contradicts_in m.list k c ≡ contradicts_in n.list k c
    same = contradicts_alike m.list n.list k.fact (s.rivals k.fact given) k c refl (was k on_k) (now k on_k) (was c on_c) (now c on_c)

    by : (b : Bool) → contradicts_in n.list k c ≡ b → (contradicts_in n.list k c && is_before (gap m) k.spot c.spot) ≡ (contradicts_in n.list k c && is_before (gap n) k.spot c.spot)
    by true e = ap (λ g. contradicts_in n.list k c && bound_at_most g (negsuc 0)) (s.among k c on_k on_c given e)
    by false e = ap (λ b. b && is_before (gap m) k.spot c.spot) e ∙ sym (ap (λ b. b && is_before (gap n) k.spot c.spot) e)

-- where tokens that stay are as far apart, all that is sure of them is as sure
shifted_alike : (stays : TokenRow Moment → Type 0) (m n : TimeMap) (t : Moment) (r : List ℕ) → IsShifted stays m n t r → AlikeBut stays m n t r
shifted_alike stays m n t r s = record {
  text = s.text;
  timely = λ i. int_le (negated (s.date i) +ℤ (s.text i).lo) (pos (s.horizon i));
  here = λ k on. s.back k (s.reads k on);
  there = s.reads;
  before = λ k at. elim (s.spared k (s.into k at)) [ inl on ↦ inl on | inr spared ↦ inr spared.0 ];
  after = λ k at. elim (s.spared k at) [ inl on ↦ inl on | inr spared ↦ inr spared.1 ];
  begun = λ k on. ap (λ g. bound_at_most g (pos 0)) (s.begins k on);
  ended = λ k e on is. ap (λ g. bound_at_most g (negsuc 0)) (s.ends k e on is);
  clipped = λ k c on_k on_c given. clipped_alike stays m n t r s k c on_k on_c (subst (λ (x : RuleText). In k.fact (read_by x)) s.text given);
  ordered = λ k c on_k on_c one i. ordering_then (int_cmp (negated (s.dates k on_k i)) (negated (s.dates c on_c i))) (slice_cmp nat_cmp (printed k.spot) (printed c.spot));
}

pub shifts_keep : ShiftsKeep
shifts_keep s n b c t r stay sound_s sound_n in_s in_n shifted =
    outcomes_stay_but s n b c t r stay sound_s sound_n in_s in_n (shifted_alike (λ k. In k stay) (map_of s b) (map_of n c) t r shifted)
