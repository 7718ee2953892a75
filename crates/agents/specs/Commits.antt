-- What becomes of edits that are made one after the other, all or none.
use Rattle.std.specs.Prelude.{◌≡◌, ◌⊎◌, ℕ, List, [], ◌∷◌}
use Rattle.tmm_model.specs.declared.changes.Taken.{Taken}
use Rattle.tmm_model.specs.declared.refusal.Refusal.{Refusal}
use Rattle.tmm_model.specs.Changes.{changes, delta_of}
use Rattle.tmm_model.specs.Edits.{next_list}
use Rattle.tmm_model.specs.Kept.{IsAccepted}
use Rattle.tmm_model.specs.Standing.{Standing}
use Rattle.tmm_model.specs.Transcript.{RefusesEdit}
use Rattle.agents.specs.declared.batches.Held.{Held}

-- the list after these edits
abbrev pub list_after : Standing → List Held → Standing
list_after list [] = list
list_after list (held ∷ edits) = list_after (next_list list held.edit) edits

-- **Each edit is accepted in turn**: each on the list that those before it leave, with its line and
-- what it changes there.
abbrev pub AcceptedInTurn : Standing → List Held → List Taken → Type 0
AcceptedInTurn list [] [] = Unit {0}
AcceptedInTurn list (held ∷ edits) (taken ∷ more) =
    IsAccepted list held.edit
    × (taken.line ≡ held.line)
    × (delta_of taken.changes ≡ changes list (next_list list held.edit))
    × AcceptedInTurn (next_list list held.edit) edits more
AcceptedInTurn list edits taken = ⊥

-- **The first edit that is refused**, where those before it are accepted in turn: the number of its
-- line, and why it is refused on the list that these leave.
abbrev pub RefusedAt : Standing → List Held → ℕ → Refusal → Type 0
RefusedAt list [] line refusal = ⊥
RefusedAt list (held ∷ edits) line refusal =
    ((line ≡ held.line) × RefusesEdit list held.edit refusal)
    ⊎ (IsAccepted list held.edit × RefusedAt (next_list list held.edit) edits line refusal)
