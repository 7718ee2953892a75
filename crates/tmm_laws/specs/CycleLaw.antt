-- The law of refusals for a negative cycle: the list and the premise fix the sum that is told.
use Rattle.std.specs.Prelude.{◌≡◌, List, ℤ, None}
use Rattle.tmm_model.specs.declared.premise.Edit.TheVariants.{Add}
use Rattle.tmm_model.specs.declared.premise.Premise.{Premise}
use Rattle.tmm_model.specs.declared.walk.WalkStep.{WalkStep}
use Rattle.tmm_model.specs.Cycles.{IsCycleOf}
use Rattle.tmm_model.specs.Lines.{IsWellFormedPremise}
use Rattle.list_theory.specs.WellNamed.{IsSound}
use Rattle.tmm_model.specs.Standing.{Standing}
use Rattle.tmm_model.specs.Verdicts.{list_cause}
use Rattle.list_theory.specs.NegativeCycles.{IsCycleSum}

-- Of a premise against which names and counts have no cause, a sound list has at most one sum of a
-- cycle, though the premise may have two constraints.
abbrev pub CycleSumsAreOne : Type 0
CycleSumsAreOne =
    (s : Standing) (refused : Premise) → IsSound s → IsWellFormedPremise refused → list_cause s (Add refused) ≡ None
    → (x y : ℤ) → IsCycleSum s.premises refused x → IsCycleSum s.premises refused y → x ≡ y

-- the sum told with the cycle of a refused premise is such a sum
abbrev pub CyclesTellTheSum : Type 0
CyclesTellTheSum = (premises : List Premise) (refused : Premise) (sum : ℤ) (steps : List WalkStep) → IsCycleOf premises refused sum steps → IsCycleSum premises refused sum
