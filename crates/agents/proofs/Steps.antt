-- Edits that are made one after the other, up to a place.
use Rattle.std.proofs.Common.{◌≡◌, ℕ, ◌+◌, ◌<◌, List, [], ◌∷◌, ◌++◌, length, get_or, take, drop, refl, sym, ap, ◌∙◌, subst, inl, inr}
use Rattle.std.proofs.lemmas.List.{take_more, drop_more, take-append-drop}
use Rattle.tmm_model.specs.declared.changes.Taken.{Taken}
use Rattle.tmm_model.specs.declared.refusal.Refusal.{Refusal}
use Rattle.tmm_model.specs.Changes.{changes, delta_of}
use Rattle.tmm_model.specs.Edits.{next_list}
use Rattle.tmm_model.specs.Kept.{IsAccepted}
use Rattle.tmm_model.specs.Standing.{Standing}
use Rattle.tmm_model.specs.Transcript.{RefusesEdit}
use Rattle.agents.specs.declared.batches.Held.{Held}
use Rattle.agents.specs.declared.making.BatchStop.{BatchStop}
use Rattle.agents.specs.declared.making.BatchStop.TheVariants.{Refused, NoMemory}
use Rattle.agents.specs.Holdings.{StopsBatch, StopsOne}
use Rattle.agents.specs.Commits.{list_after, AcceptedInTurn, RefusedAt}

pub list_after-push : (list : Standing) (edits : List Held) (held : Held) → list_after list (edits ++ held ∷ []) ≡ next_list (list_after list edits) held.edit
list_after-push list [] held = refl
list_after-push list (first ∷ edits) held = list_after-push (next_list list first.edit) edits held

pub accepted-push : (list : Standing) (edits : List Held) (all : List Taken) (held : Held) (taken : Taken)
    → AcceptedInTurn list edits all → IsAccepted (list_after list edits) held.edit → taken.line ≡ held.line
    → delta_of taken.changes ≡ changes (list_after list edits) (next_list (list_after list edits) held.edit) → AcceptedInTurn list (edits ++ held ∷ []) (all ++ taken ∷ [])
accepted-push list [] [] held taken turn accepted line told = (accepted, line, told, tt)
accepted-push list (first ∷ edits) (one ∷ all) held taken turn accepted line told =
    (turn.0, turn.1, turn.2, accepted-push (next_list list first.edit) edits all held taken turn.3 accepted line told)
accepted-push list [] (one ∷ all) held taken never accepted line told = absurd never
accepted-push list (first ∷ edits) [] held taken never accepted line told = absurd never

pub refused-behind : (list : Standing) (edits rest : List Held) (all : List Taken) (held : Held) (line : ℕ) (refusal : Refusal)
    → AcceptedInTurn list edits all → line ≡ held.line → RefusesEdit (list_after list edits) held.edit refusal → RefusedAt list (edits ++ held ∷ rest) line refusal
refused-behind list [] rest [] held line refusal turn is refuses = inl (is, refuses)
refused-behind list (first ∷ edits) rest (one ∷ all) held line refusal turn is refuses =
    inr (turn.0, refused-behind (next_list list first.edit) edits rest all held line refusal turn.3 is refuses)
refused-behind list [] rest (one ∷ all) held line refusal never is refuses = absurd never
refused-behind list (first ∷ edits) rest [] held line refusal never is refuses = absurd never

module _ (list : Standing) (edits : List Held) (i : ℕ) (all : List Taken) (held : Held) (within : i < length edits) (is : held ≡ get_or edits i held) where
  -- the edits up to behind this one
  up_to : take (i + 1) edits ≡ take i edits ++ held ∷ []
  up_to = take_more edits i held within ∙ ap (λ (h : Held). take i edits ++ h ∷ []) (sym is)

  -- one edit more is accepted
  pub accepted-next : (taken : Taken) → AcceptedInTurn list (take i edits) all → IsAccepted (list_after list (take i edits)) held.edit → taken.line ≡ held.line
      → delta_of taken.changes ≡ changes (list_after list (take i edits)) (next_list (list_after list (take i edits)) held.edit) → AcceptedInTurn list (take (i + 1) edits) (all ++ taken ∷ [])
  accepted-next taken turn accepted line told =
      subst (λ (es : List Held). AcceptedInTurn list es (all ++ taken ∷ [])) (sym up_to) (accepted-push list (take i edits) all held taken turn accepted line told)

  pub list_after-next : list_after list (take (i + 1) edits) ≡ next_list (list_after list (take i edits)) held.edit
  list_after-next = ap (λ (es : List Held). list_after list es) up_to ∙ list_after-push list (take i edits) held

  -- and where it stops, the batch stops there
  pub stops-there : AcceptedInTurn list (take i edits) all → (stop : BatchStop) → StopsOne (list_after list (take i edits)) held stop → StopsBatch list edits stop
  stops-there turn (Refused line refusal) stops =
      let parts : take i edits ++ held ∷ drop (i + 1) edits ≡ edits = ap (λ (h : Held). take i edits ++ h ∷ drop (i + 1) edits) is ∙ ap (λ (es : List Held). take i edits ++ es) (sym (drop_more edits i held within)) ∙ take-append-drop i edits in
      subst (λ (es : List Held). RefusedAt list es line refusal) parts (refused-behind list (take i edits) (drop (i + 1) edits) all held line refusal turn stops.0 stops.1)
  stops-there turn NoMemory stops = tt
