-- Where the words behind an agent's begin.
use Rattle.std.proofs.Common.{◌≡◌, ℕ, ◌+◌, ◌≤◌, Bool, true, false, cond, List, [], ◌∷◌, length, Option, Some, None, arith}
use Rattle.std.specs.Prelude.{codes, option_map}
use Rattle.tmm_model.specs.declared.mode.Mode.TheVariants.{Agents as Sharing}
use Rattle.tmm_model.specs.declared.mode.ModeLine.TheVariants.{Hold, Commit, Discard}
use Rattle.tmm_model.specs.Lines.{is_blank, goes_on, words}
use Rattle.tmm_model.specs.Modes.{after_word, agent_form, agent_of, agents_form, own_form}
use Rattle.tmm_model.specs.Points.{same_name}

-- no place behind the first word is behind the line
after_word-within : (line : List ℕ) → after_word line ≤ length line
after_word-within [] = omega arith
after_word-within (b ∷ line) = by (after_word-within line) (is_blank b) (goes_on line)
  where
    by : after_word line ≤ length line → (blank more : Bool) → cond blank (after_word line + 1) (cond more (after_word line + 1) 1) ≤ length (b ∷ line)
    by so true more = omega arith
    by so false true = omega arith
    by so false false = omega arith

-- the place that an agent's edit begins at is the one behind its word
form_rest : (rest : ℕ) (agent : List ℕ) (words : List (List ℕ)) (other : List ℕ) (place : ℕ) → agent_form rest agent words ≡ Hold other place → place ≡ rest
form_rest rest agent [] other place is = cc
form_rest rest agent (word ∷ []) other place is = by (same_name word (codes "commit")) (same_name word (codes "discard")) is
  where
    by : (commits discards : Bool) → cond commits (Commit agent) (cond discards (Discard agent) (Hold agent rest)) ≡ Hold other place → place ≡ rest
    by true discards e = cc
    by false true e = cc
    by false false e = cc
form_rest rest agent (word ∷ next ∷ more) other place is = cc

map_rest : (rest : ℕ) (words : List (List ℕ)) (agent : Option (List ℕ)) (other : List ℕ) (place : ℕ)
    → option_map (λ a. agent_form rest a words) agent ≡ Some (Hold other place) → place ≡ rest
map_rest rest words None other place is = cc
map_rest rest words (Some agent) other place is = let form : agent_form rest agent words ≡ Hold other place = cc in form_rest rest agent words other place form

agents_rest : (rest : ℕ) (words : List (List ℕ)) (other : List ℕ) (place : ℕ) → agents_form rest words ≡ Some (Hold other place) → place ≡ rest
agents_rest rest [] other place is = cc
agents_rest rest (first ∷ words) other place is = map_rest rest words (agent_of first) other place is

pub rest_within : (line agent : List ℕ) (rest : ℕ) → own_form Sharing line ≡ Some (Hold agent rest) → rest ≤ length line
rest_within line agent rest says = omega (arith, agents_rest (after_word line) (words line) agent rest says, after_word-within line)
