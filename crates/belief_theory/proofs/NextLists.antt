-- What stays of premises, rules and outcomes in the list that an edit leaves.
use Rattle.std.proofs.Common.{◌≡◌, ◌∙◌, ℕ, false, List, [], ◌∷◌, sym, ap, subst, inl, inr}
use Rattle.std.specs.Prelude.{◌⊎◌, Some}
use Rattle.std.specs.List.{Contains}
use Rattle.tmm_model.specs.declared.premise.Edit.{Edit}
use Rattle.tmm_model.specs.declared.premise.Edit.TheVariants.{Add, Erase, Horizon, Upgrade}
use Rattle.tmm_model.specs.declared.premise.Premise.{Premise}
use Rattle.tmm_model.specs.declared.token.TokenRow.{TokenRow}
use Rattle.tmm_model.specs.Beliefs.{rules_at, token_of}
use Rattle.belief_theory.specs.Outcomes.{outcome}
use Rattle.tmm_model.specs.Edits.{next_list}
use Rattle.tmm_model.specs.Maps.{built, believed_tokens}
use Rattle.tmm_model.specs.Moments.{Moment, as_rule, rule_of}
use Rattle.list_theory.specs.WellNamed.{IsSound}
use Rattle.tmm_model.specs.Standing.{Standing, premise_in}
use Rattle.belief_theory.specs.Touched.{is_touched}
use Rattle.list_theory.proofs.Elements.{In, In-left, Contains-from_In, In-filter_map}
use Rattle.list_theory.proofs.KnownNames.{found}
use Rattle.belief_theory.proofs.OneRight.{spot-token_of}
use Rattle.belief_theory.proofs.Order.{IsSpelt}
use Rattle.belief_theory.proofs.Sound.{rule_stands}
use Rattle.belief_theory.proofs.SoundBeliefs.{believed_occurs}
use Rattle.belief_theory.proofs.Spelt.{spelt}
use Rattle.belief_theory.proofs.Untouched.{outcome_alike, untouched_alike, untouched_stood}
use Rattle.list_theory.proofs.Erasure.{kept_before}

-- each premise of the first list stands in the second
abbrev pub AreWithin : List Premise → List Premise → Type 0
AreWithin ps qs = (p : Premise) → In p ps → In p qs

-- an edit adds premises, or takes some away
pub one_way : (s : Standing) (edit : Edit) → AreWithin s.premises (next_list s edit).premises ⊎ AreWithin (next_list s edit).premises s.premises
one_way s (Add p) = inl (λ q at. In-left s.premises (p ∷ []) q at)
one_way s (Erase name) = inr (kept_before name [] s.premises)
one_way s (Horizon n) = inl (λ q at. at)
one_way s Upgrade = inl (λ q at. at)

-- what is found in fewer premises is found in more
pub found_within : (s t : Standing) → IsSound t → AreWithin s.premises t.premises → (u : Moment) (r : List ℕ) → IsSound s → Contains (rules_at s u) r → rule_of s r ≡ rule_of t r
found_within s t sound_t within u r sound_s at =
    let (p, here, named, _, _) = rule_stands s u r at in
    let one : premise_in s.premises r ≡ Some p = subst (λ n. premise_in s.premises n ≡ Some p) named (found s.premises sound_s.well_named p here) in
    let two : premise_in t.premises r ≡ Some p = subst (λ n. premise_in t.premises n ≡ Some p) named (found t.premises sound_t.well_named p (within p here)) in
    ap as_rule (one ∙ sym two)

-- believed tokens begin at words of the grammar
pub all_spelt : (s : Standing) → IsSound s → (k : TokenRow Moment) → In k (believed_tokens (built s)) → IsSpelt k.spot
all_spelt s sound k at =
    let (x, in_b, e) = In-filter_map (token_of s) (built s).believed k at in
    subst IsSpelt (sym (spot-token_of s x k e)) (spelt s sound.well_formed x (believed_occurs s sound x (Contains-from_In (built s).believed x in_b)))

-- a decision that an edit does not touch keeps its outcome
pub untouched : (old : Standing) (edit : Edit) → IsSound old → IsSound (next_list old edit)
    → (t : Moment) (r : List ℕ) → Contains (rules_at (next_list old edit) t) r
    → is_touched (built old) (built (next_list old edit)) (t, r) ≡ false
    → outcome old (built old).far (built old).believed t r
    ≡ outcome (next_list old edit) (built (next_list old edit)).far (built (next_list old edit)).believed t r
untouched old edit sound_old sound_new t r stands h =
    let new = next_list old edit in
    let stood = untouched_stood (built old) (built new) t r h in
    let text : rule_of old r ≡ rule_of new r =
    elim (one_way old edit) [
      | inl more ↦ found_within old new sound_new more t r sound_old stood.1
      | inr fewer ↦ sym (found_within new old sound_old fewer t r sound_new stands)
    ] in
    outcome_alike (built old) (built new) t r (untouched_alike (built old) (built new) t r text h) (all_spelt old sound_old) (all_spelt new sound_new)
