-- Walks as steps between declared points, and the cycle that a refusal shows.
use Rattle.std.specs.Prelude.{◌≡◌, List, [], ◌∷◌, ◌++◌, map, ℤ, pos, ◌<ℤ◌}
use Rattle.std.specs.List.{All, Contains, IsDistinct, flat_map}
use Rattle.tmm_model.specs.declared.bound.Bound.TheVariants.{Finite}
use Rattle.tmm_model.specs.declared.point.PointName.{PointName}
use Rattle.tmm_model.specs.declared.premise.Premise.{Premise}
use Rattle.tmm_model.specs.declared.walk.WalkStep.{WalkStep}
use Rattle.tmm_model.specs.Bounds.{after}
use Rattle.tmm_model.specs.Points.{same_point}
use Rattle.tmm_model.specs.Standing.{arc_of, steps_of, far_in}
use Rattle.tmm_model.specs.Walks.{total}

-- all constraints of the premises, as steps
abbrev pub steps_in : List Premise → List WalkStep
steps_in premises = flat_map steps_of premises

-- the steps lead one after the other from p to q
abbrev pub Leads : PointName → PointName → List WalkStep → Type 0
Leads p q [] = p ≡ q
Leads p q (step ∷ steps) = (step.from ≡ p) × Leads step.to q steps

-- the sum of the weights
abbrev pub sum_of : List WalkStep → ℤ
sum_of steps = total (map arc_of steps)

-- the points at which the steps begin
abbrev pub begins : List WalkStep → List PointName
begins steps = map (λ step. step.from) steps

-- known constraints lead from p to q, and no point is visited twice
pub record IsPath (known : List WalkStep) (p q : PointName) (steps : List WalkStep) : Type 0 where
  pub own : All (Contains known) steps
  pub leads : Leads p q steps
  pub distinct : IsDistinct same_point (begins steps ++ q ∷ [])

-- the step `first` and then known constraints that lead back, with this sum
pub record IsCycleBy (known : List WalkStep) (first : WalkStep) (sum : ℤ) (steps : List WalkStep) : Type 0 where
  pub rest : List WalkStep
  pub are : steps ≡ first ∷ rest
  pub back : IsPath known first.to first.from rest
  pub sums : sum_of steps ≡ sum

-- **The cycle of a refused premise**: one of its constraints and a tightest way back over the
-- standing premises, with a negative sum.
pub record IsCycleOf (premises : List Premise) (refused : Premise) (sum : ℤ) (steps : List WalkStep) : Type 0 where
  pub first : WalkStep
  pub own : Contains (steps_of refused) first
  pub cycle : IsCycleBy (steps_in premises) first sum steps
  pub tightest : after first.weight (far_in premises first.to first.from) ≡ Finite sum
  pub negative : sum <ℤ pos 0
