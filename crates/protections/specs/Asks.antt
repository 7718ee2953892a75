-- When a fact is found throughout two points as it was before an edit.
use Rattle.std.specs.Prelude.{◌≡◌, ◌⊎◌, ℕ, true, List, Some}
use Rattle.tmm_model.specs.declared.point.PointName.TheVariants.{Start}
use Rattle.tmm_model.specs.declared.token.TokenRow.{TokenRow}
use Rattle.tmm_model.specs.Answers.{ask}
use Rattle.tmm_model.specs.Beliefs.{contradicts_in}
use Rattle.tmm_model.specs.Maps.{TimeMap, built, gap, believed_tokens}
use Rattle.tmm_model.specs.Moments.{Moment, At}
use Rattle.tmm_model.specs.Standing.{Standing}
use Rattle.list_theory.specs.WellNamed.{IsSound}
use Rattle.list_theory.proofs.Elements.{In}
use Rattle.belief_theory.specs.Touched.{bears_on}

-- in one of the maps the token bears on what supports the fact
abbrev pub BearsOn : TimeMap → TimeMap → List ℕ → TokenRow Moment → Type 0
BearsOn m n fact k = (bears_on m.list fact k ≡ true) ⊎ (bears_on n.list fact k ≡ true)

-- Both maps believe the same of the tokens that bear on the fact, as far apart and as far from
-- `start`; a token of the fact and another contradict each other in both or in neither; and the
-- points p and q are as far from each other and from the begins and ends of these tokens.
pub record SameForPoints (m n : TimeMap) (fact : List ℕ) (p q : Moment) : Type 0 where
  pub into : (k : TokenRow Moment) → BearsOn m n fact k → In k (believed_tokens m) → In k (believed_tokens n)
  pub back : (k : TokenRow Moment) → BearsOn m n fact k → In k (believed_tokens n) → In k (believed_tokens m)
  pub rivals : (k c : TokenRow Moment) → k.fact ≡ fact → In k (believed_tokens m) → In c (believed_tokens m) → In c (believed_tokens n)
      → contradicts_in m.list k c ≡ contradicts_in n.list k c
  pub gaps : (k c : TokenRow Moment) → BearsOn m n fact k → BearsOn m n fact c → In k (believed_tokens m) → In c (believed_tokens m) → gap m k.spot c.spot ≡ gap n k.spot c.spot
  pub dates : (k : TokenRow Moment) → BearsOn m n fact k → In k (believed_tokens m) → gap m k.spot (At Start) ≡ gap n k.spot (At Start)
  pub points : gap m q p ≡ gap n q p
  pub first : (k : TokenRow Moment) → BearsOn m n fact k → In k (believed_tokens m) → gap m p k.spot ≡ gap n p k.spot
  pub last : (k : TokenRow Moment) → BearsOn m n fact k → In k (believed_tokens m) → gap m q k.spot ≡ gap n q k.spot
  pub ends : (k : TokenRow Moment) (e : Moment) → BearsOn m n fact k → In k (believed_tokens m) → k.end ≡ Some e → gap m e q ≡ gap n e q

-- **What is found of such a fact throughout such points stays**: the first supporter, or why there
-- is none.
abbrev pub AsksStay : Type 0
AsksStay =
    (s t : Standing) → IsSound s → IsSound t → (fact : List ℕ) (p q : Moment) → SameForPoints (built s) (built t) fact p q
    → ask (built s) fact p q ≡ ask (built t) fact p q
