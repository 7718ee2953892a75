-- Where no premise sets a fact against another one, its tokens contradict those of their class
-- alone.
use Rattle.std.proofs.Common.{◌≡◌, ◌∙◌, ℕ, Bool, true, false, not, ◌&&◌, ◌||◌, List, refl, sym, ap}
use Rattle.std.specs.Prelude.{Option, Some, None}
use Rattle.std.specs.List.{list_any}
use Rattle.tmm_model.specs.declared.bound.Bound.{Bound}
use Rattle.tmm_model.specs.declared.token.TokenRow.{TokenRow}
use Rattle.tmm_model.specs.Beliefs.{contradicts_in}
use Rattle.tmm_model.specs.Moments.{Moment}
use Rattle.tmm_model.specs.Points.{same_name}
use Rattle.tmm_model.specs.Standing.{Standing}
use Rattle.tmm_model.specs.Tokens.{of_one_class, supports, cuts, is_by, is_before, lasts_to}
use Rattle.belief_theory.proofs.Rivals.{or_false}
use Rattle.walk_theory.proofs.Points.{same_name-is}
use Rattle.premise_list.specs.Rivalries.{has_rivals}
use Rattle.premise_list.proofs.Unrivalled.{no_rival}

module _ (s : Standing) (gap : Moment → Moment → Bound) where
  module _ (k : TokenRow Moment) (alone : has_rivals s k.fact ≡ false) where
    contradict : (c : TokenRow Moment) → contradicts_in s k c ≡ of_one_class k c
    contradict c = ap (λ b. of_one_class k c || b) (no_rival s k.fact alone c.fact) ∙ or_false (of_one_class k c)

    pub cuts_alone : (q : Moment) → cuts (contradicts_in s) gap k q ≡ cuts of_one_class gap k q
    cuts_alone q = λ i c. (contradict c i && is_before gap k.spot c.spot) && is_by gap c.spot q

    lasts_alone : (ts : List (TokenRow Moment)) (q : Moment) (o : Option Moment) → lasts_to (contradicts_in s) gap ts k q o ≡ lasts_to of_one_class gap ts k q o
    lasts_alone ts q (Some e) = refl
    lasts_alone ts q None = ap (λ test. not (list_any test ts)) (cuts_alone q)

  -- **A fact without rivals is supported by tokens that no token of their class cuts.**
  pub supports_alone : (ts : List (TokenRow Moment)) (fact : List ℕ) → has_rivals s fact ≡ false → (p q : Moment) → supports (contradicts_in s) gap ts fact p q ≡ supports of_one_class gap ts fact p q
  supports_alone ts fact alone p q = λ i k. by k (same_name k.fact fact) refl i
    where
      by : (k : TokenRow Moment) (b : Bool) → same_name k.fact fact ≡ b → supports (contradicts_in s) gap ts fact p q k ≡ supports of_one_class gap ts fact p q k
      by k false e = ap (λ b. (b && is_by gap k.spot p) && lasts_to (contradicts_in s) gap ts k q k.end) e ∙ sym (ap (λ b. (b && is_by gap k.spot p) && lasts_to of_one_class gap ts k q k.end) e)
      by k true e =
          let own : has_rivals s k.fact ≡ false = ap (has_rivals s) (same_name-is k.fact fact e) ∙ alone in
          λ i. (same_name k.fact fact && is_by gap k.spot p) && lasts_alone k own ts q k.end i
