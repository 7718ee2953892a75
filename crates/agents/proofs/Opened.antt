-- The empty list opens version 2.
use Rattle.std.proofs.Common.{◌≡◌, true, false, subst, arith}
use Rattle.tmm_model.specs.declared.premise.Edit.TheVariants.{Upgrade}
use Rattle.tmm_model.specs.declared.refusal.Refusal.{Refusal}
use Rattle.tmm_model.specs.declared.refusal.Refusal.TheVariants.{LimitLine, Form, Taken, Unknown, Sort, LimitPremises, LimitPoints, Cycle, LimitSize}
use Rattle.tmm_model.specs.Standing.{Standing, empty_list}
use Rattle.tmm_model.specs.Transcript.{RefusesEdit}
use Rattle.belief_theory.proofs.StayKept.{upgraded_is_small}

-- none is no cause
no_cause : false ≡ true → ⊥
no_cause e = cc

-- no cause stands against it
never : (refusal : Refusal) → RefusesEdit empty_list Upgrade refusal → ⊥
never LimitLine refuses = no_cause refuses.0
never Form refuses = no_cause refuses.0
never (Taken word) refuses = no_cause refuses.0
never (Unknown word) refuses = no_cause refuses.0
never (Sort word) refuses = no_cause refuses.0
never LimitPremises refuses = no_cause refuses.0
never LimitPoints refuses = no_cause refuses.0
never (Cycle sum steps) refuses = refuses.cycle
never LimitSize refuses = omega (arith, refuses.large, upgraded_is_small)

pub empty_opens : (list : Standing) (refusal : Refusal) → list ≡ empty_list → RefusesEdit list Upgrade refusal → ⊥
empty_opens list refusal is refuses = never refusal (subst (λ (s : Standing). RefusesEdit s Upgrade refusal) is refuses)
