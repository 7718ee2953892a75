-- Which of the reported protections are newly broken, and which are mended.
use Rattle.std.specs.Prelude.{ℕ, Bool, true, false, not, ◌&&◌, List, filter, find, Option, Some, None}
use Rattle.std.specs.List.{list_any, filter_map}
use Rattle.tmm_model.specs.declared.premise.Premise.{Premise}
use Rattle.tmm_model.specs.Answers.{Finding}
use Rattle.tmm_model.specs.Changes.{protection_name}
use Rattle.tmm_model.specs.Points.{same_name}

-- reported protections: their names, and what was found
abbrev pub Reports : Type 0
Reports = List (List ℕ × Finding)

-- a protection of this name is reported
abbrev pub is_reported : Reports → List ℕ → Bool
is_reported reports name = list_any (λ r. same_name r.0 name) reports

-- what is reported under this name
abbrev pub report_in : Reports → List ℕ → Option (List ℕ × Finding)
report_in reports name = find (λ r. same_name name r.0) reports

module _ (before : Reports) where
  -- the report, none where it was broken before
  abbrev pub new_of : List ℕ × Finding → Option (List ℕ × Finding)
  new_of r = elim (is_reported before r.0) [ true ↦ None | false ↦ Some r ]

  -- those that were not broken before
  abbrev pub newly_broken : Reports → Reports
  newly_broken after = filter (λ r. not (is_reported before r.0)) after

-- the name where a test holds
abbrev pub name_if : Bool → List ℕ → Option (List ℕ)
name_if true name = Some name
name_if false name = None

module _ (before after : Reports) where
  -- it was broken before and is not now
  abbrev pub is_mended : List ℕ → Bool
  is_mended name = is_reported before name && not (is_reported after name)

  -- the name where it is that of a mended protection
  abbrev pub if_mended : Option (List ℕ) → Option (List ℕ)
  if_mended None = None
  if_mended (Some name) = name_if (is_mended name) name

  -- the name of a protection that is mended, none for any other premise
  abbrev pub mended_of : Premise → Option (List ℕ)
  mended_of premise = if_mended (protection_name premise)

  -- the names of those that stand and are mended
  abbrev pub mended : List Premise → List (List ℕ)
  mended premises = filter is_mended (filter_map protection_name premises)
