-- Points that moved: when a decision keeps its outcome all the same.
use Rattle.std.specs.Prelude.{◌≡◌, ◌⊎◌, ℕ, true, List, Some}
use Rattle.tmm_model.specs.declared.point.PointName.TheVariants.{Start}
use Rattle.tmm_model.specs.declared.token.TokenRow.{TokenRow}
use Rattle.tmm_model.specs.Beliefs.{contradicts_in}
use Rattle.tmm_model.specs.Maps.{TimeMap, gap}
use Rattle.tmm_model.specs.Moments.{Moment, At, read_by, rule_of}
use Rattle.tmm_model.specs.Standing.{Standing, far_in}
use Rattle.list_theory.specs.WellNamed.{IsSound}
use Rattle.list_theory.proofs.Elements.{In}
use Rattle.belief_theory.specs.Outcomes.{outcome}
use Rattle.belief_theory.specs.Touched.{watched}
use Rattle.belief_theory.proofs.Rivals.{HaveSameRivals}
use Rattle.spots.specs.OfLists.{map_of}
use Rattle.revisions.specs.Walls.{IsAside, AllOccur}

-- **From one map to the other points moved, but none of which the decision of r at t needs to
-- know.** The rule says the same and reads the same tokens, and what it reads has the same rivals.
-- The event is as far from `start` as it was. So is each token that stays, and as far from the
-- event, and from those that stay and contradict it, where it is of a fact that the rule reads.
-- Each other one is aside, before and after.
pub record IsShifted (stays : TokenRow Moment → Type 0) (m n : TimeMap) (t : Moment) (r : List ℕ) : Type 0 where
  pub text : rule_of m.list r ≡ rule_of n.list r
  pub horizon : m.list.horizon ≡ n.list.horizon
  pub rivals : (f : List ℕ) → In f (read_by (rule_of n.list r)) → HaveSameRivals m.list n.list f
  pub into : (k : TokenRow Moment) → In k (watched m r) → In k (watched n r)
  pub back : (k : TokenRow Moment) → In k (watched n r) → In k (watched m r)
  pub date : gap m t (At Start) ≡ gap n t (At Start)
  pub reads : (k : TokenRow Moment) → stays k → In k (watched n r)
  pub dates : (k : TokenRow Moment) → stays k → gap m k.spot (At Start) ≡ gap n k.spot (At Start)
  pub begins : (k : TokenRow Moment) → stays k → gap m t k.spot ≡ gap n t k.spot
  pub ends : (k : TokenRow Moment) (e : Moment) → stays k → k.end ≡ Some e → gap m e t ≡ gap n e t
  pub among : (k c : TokenRow Moment) → stays k → stays c → In k.fact (read_by (rule_of n.list r)) → contradicts_in n.list k c ≡ true → gap m c.spot k.spot ≡ gap n c.spot k.spot
  pub spared : (k : TokenRow Moment) → In k (watched n r) → stays k ⊎ (IsAside stays m t r k × IsAside stays n t r k)

-- **Then the outcome is the same in both.** The tokens that stay are given as a list.
abbrev pub ShiftsKeep : Type 0
ShiftsKeep =
    (s n : Standing) (b c : List Moment) (t : Moment) (r : List ℕ) (stay : List (TokenRow Moment))
    → IsSound s → IsSound n → AllOccur s b → AllOccur n c
    → IsShifted (λ k. In k stay) (map_of s b) (map_of n c) t r
    → outcome s (far_in s.premises) b t r ≡ outcome n (far_in n.premises) c t r
