-- What is told of two maps is what their lists' maps differ in.
use Rattle.std.proofs.Common.{◌≡◌, ℕ, None, Result, Ok, Err, IfOk}
use Rattle.std.specs.Prelude.{map}
use Rattle.tmm_model.specs.declared.changes.Changes.{Changes as CodeChanges}
use Rattle.tmm_model.specs.declared.premise.Edit.{Edit}
use Rattle.tmm_model.specs.declared.refusal.Refusal.TheVariants.{LimitLine, Form, Taken, Unknown, Sort, LimitPremises, LimitPoints, Cycle, LimitSize}
use Rattle.tmm_model.specs.declared.refusal.Stop.{Stop}
use Rattle.tmm_model.specs.declared.refusal.Stop.TheVariants.{Refused, NoMemory}
use Rattle.tmm_model.specs.Answers.{report_of, size}
use Rattle.tmm_model.specs.Changes.{changes, delta_of, clip_pair}
use Rattle.tmm_model.specs.Edits.{next_list}
use Rattle.tmm_model.specs.Maps.{built}
use Rattle.tmm_model.specs.Moments.{moment_of}
use Rattle.tmm_model.specs.Standing.{Standing, IsConsistent}
use Rattle.tmm_model.specs.Verdicts.{list_cause}
use Rattle.projection.specs.Queues.{IsTooLarge}
use Rattle.list_theory.specs.LeftOut.{IsLeftOut}
use Rattle.map_core.specs.Stops.{StopsEdit, NamesEdited}

-- the seven lists, one by one
pub told : (old new : Standing) (c : CodeChanges) → IsLeftOut old new c.erased.items
    → map moment_of c.left.items ≡ (changes old new).left
    → map moment_of c.entered.items ≡ (changes old new).entered
    → map moment_of c.loose.items ≡ (changes old new).loose
    → map clip_pair c.clips.items ≡ (changes old new).clips
    → map report_of c.broken.items ≡ (changes old new).broken
    → c.mended.items ≡ (changes old new).mended
    → delta_of c ≡ changes old new
told old new c erased left entered loose clips broken mended = λ i. record {
  erased = erased i;
  left = left i;
  entered = entered i;
  loose = loose i;
  clips = clips i;
  broken = broken i;
  mended = mended i;
}

-- what is said of an answer follows from what was said of it
pub if_ok : {T E : Type 0} (P Q : T → Type 0) → ((x : T) → P x → Q x) → (r : Result T E) → IfOk r P → IfOk r Q
if_ok P Q step (Ok x) p = step x p
if_ok P Q step (Err e) p = p

-- a map that is too large is refused for its size
pub too_large : (old : Standing) (edit : Edit) → list_cause old edit ≡ None → IsConsistent (next_list old edit).premises
    → (stop : Stop) → IsTooLarge (size (built (next_list old edit))) stop → StopsEdit old edit stop
too_large old edit no_cause dates (Refused LimitSize) large = record { no_cause = no_cause; dates = dates; large = large }
too_large old edit no_cause dates (Refused LimitLine) never = absurd never
too_large old edit no_cause dates (Refused Form) never = absurd never
too_large old edit no_cause dates (Refused (Taken word)) never = absurd never
too_large old edit no_cause dates (Refused (Unknown word)) never = absurd never
too_large old edit no_cause dates (Refused (Sort word)) never = absurd never
too_large old edit no_cause dates (Refused LimitPremises) never = absurd never
too_large old edit no_cause dates (Refused LimitPoints) never = absurd never
too_large old edit no_cause dates (Refused (Cycle sum steps)) never = absurd never
too_large old edit no_cause dates NoMemory free = tt

-- a map that is too large is refused without a word
pub named_large : (n : ℕ) (stop : Stop) → IsTooLarge n stop → NamesEdited stop
named_large n (Refused LimitSize) large = tt
named_large n (Refused LimitLine) never = absurd never
named_large n (Refused Form) never = absurd never
named_large n (Refused (Taken word)) never = absurd never
named_large n (Refused (Unknown word)) never = absurd never
named_large n (Refused (Sort word)) never = absurd never
named_large n (Refused LimitPremises) never = absurd never
named_large n (Refused LimitPoints) never = absurd never
named_large n (Refused (Cycle sum steps)) never = absurd never
named_large n NoMemory large = tt
