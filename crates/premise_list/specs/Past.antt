-- How the list of the last commit is found from the present one.
use Rattle.std.specs.Prelude.{ℕ, ◌<◌, ◌≤◌, ◌+◌, ◌*◌, List, [], ◌∷◌, length, map, take}
use Rattle.std.specs.List.{insert, remove}
use Rattle.tmm_model.specs.declared.premise.Premise.{Premise}
use Rattle.tmm_model.specs.Verdicts.{words_known}
use Rattle.premise_list.specs.declared.past.Taken.{Taken}
use Rattle.premise_list.specs.declared.past.Past.{Past}

-- the list without what stands at these places, the last taken out first
abbrev pub without : List ℕ → List Premise → List Premise
without [] ps = ps
without (i ∷ is) ps = remove (without is ps) i

-- the first of these numbers, and the other one where there are none
abbrev pub first_or : List ℕ → ℕ → ℕ
first_or [] n = n
first_or (i ∷ is) n = i

-- the numbers rise, and all are below this one
abbrev pub RiseBelow : ℕ → List ℕ → Type 0
RiseBelow n [] = Unit {0}
RiseBelow n (i ∷ is) = (i < first_or is n) × RiseBelow n is

-- the premise that was taken out
abbrev pub taken_premise : Taken → Premise
taken_premise t = t.premise

-- the list with what was taken out, the latest put back first
abbrev pub restored : List Taken → List Premise → List Premise
restored [] ps = ps
restored (t ∷ taken) ps = insert (restored taken ps) t.place t.premise

-- each stood at a place that there is when its turn comes, where so many stand at first
abbrev pub Fits : List Taken → ℕ → Type 0
Fits [] n = Unit {0}
Fits (t ∷ taken) n = (t.place ≤ n + length taken) × Fits taken n

-- the list of the last commit, from these premises
abbrev pub committed_from : Past → List Premise → List Premise
committed_from past ps = restored past.taken.items (take past.shared ps)

-- The present premises lead back to those of the last commit.
pub record Stands (past : Past) (ps : List Premise) : Type 0 where
  pub within : past.shared ≤ length ps
  pub fits : Fits past.taken.items past.shared

-- at most n premises were taken out besides
pub record IsMoreBy (n : ℕ) (old new : List Taken) : Type 0 where
  pub premises : length new ≤ length old + n
  pub words : length (words_known (map taken_premise new)) ≤ length (words_known (map taken_premise old)) + 9 * n
