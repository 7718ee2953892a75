-- An edit that is refused is not accepted.
use Rattle.std.proofs.Common.{◌≡◌, ◌<◌, ◌≤◌, arith}
use Rattle.std.specs.Prelude.{Option, Some, None, IsSome}
use Rattle.tmm_model.specs.declared.premise.Edit.{Edit}
use Rattle.tmm_model.specs.declared.refusal.Refusal.{Refusal}
use Rattle.tmm_model.specs.declared.refusal.Refusal.TheVariants.{LimitLine, Form, Taken, Unknown, Sort as IllSorted, LimitPremises, LimitPoints, Cycle, LimitSize}
use Rattle.tmm_model.specs.Answers.{size, most_size}
use Rattle.tmm_model.specs.Edits.{next_list}
use Rattle.tmm_model.specs.Kept.{IsAccepted}
use Rattle.tmm_model.specs.Maps.{built}
use Rattle.tmm_model.specs.Standing.{Standing}
use Rattle.tmm_model.specs.Transcript.{RefusesEdit}
use Rattle.tmm_model.specs.Verdicts.{Cause, Tells, list_cause}

told : (s : Standing) (edit : Edit) (refusal : Refusal) → Tells refusal (list_cause s edit) → IsAccepted s edit → ⊥
told s edit refusal tells accepted = no_value (list_cause s edit) tells.0 accepted.no_cause
  where
    no_value : (o : Option Cause) → IsSome o → o ≡ None → ⊥
    no_value (Some cause) some none = cc (none)
    no_value None some none = cc (some)

pub refused : (s : Standing) (edit : Edit) (refusal : Refusal) → RefusesEdit s edit refusal → IsAccepted s edit → ⊥
refused s edit (Cycle sum steps) refuses accepted = refuses.no_dates accepted.dates
refused s edit LimitSize refuses accepted = let large : most_size < size (built (next_list s edit)) = refuses.large in let small : size (built (next_list s edit)) ≤ most_size = accepted.small in omega arith
refused s edit LimitLine refuses accepted = told s edit LimitLine refuses accepted
refused s edit Form refuses accepted = told s edit Form refuses accepted
refused s edit (Taken word) refuses accepted = told s edit (Taken word) refuses accepted
refused s edit (Unknown word) refuses accepted = told s edit (Unknown word) refuses accepted
refused s edit (IllSorted word) refuses accepted = told s edit (IllSorted word) refuses accepted
refused s edit LimitPremises refuses accepted = told s edit LimitPremises refuses accepted
refused s edit LimitPoints refuses accepted = told s edit LimitPoints refuses accepted
