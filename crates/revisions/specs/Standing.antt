-- What of the list before still occurs after an edit: that whose root and whose rules still stand.
use Rattle.std.specs.Prelude.{◌↔◌, IsSome}
use Rattle.tmm_model.specs.declared.point.PointName.TheVariants.{Begin}
use Rattle.tmm_model.specs.declared.premise.Edit.{Edit}
use Rattle.tmm_model.specs.Edits.{next_list}
use Rattle.tmm_model.specs.Moments.{Moment, At, After}
use Rattle.list_theory.specs.WellNamed.{IsSound}
use Rattle.belief_theory.specs.Right.{Occurs}
use Rattle.tmm_model.specs.Standing.{Standing, premise_in}

-- the root and each rule on the way are premises of the list
abbrev pub Stands : Standing → Moment → Type 0
Stands s (At (Begin k)) = IsSome (premise_in s.premises k)
Stands s (At _) = ⊥
Stands s (After t r) = Stands s t × IsSome (premise_in s.premises r)

-- **What occurred still occurs exactly where its root and its rules stand.**
abbrev pub StandingOccur : Type 0
StandingOccur =
    (old : Standing) (edit : Edit) → IsSound old → IsSound (next_list old edit)
    → (x : Moment) → Occurs old x → Occurs (next_list old edit) x ↔ Stands (next_list old edit) x
