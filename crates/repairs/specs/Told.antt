-- What the changes of edits tell of a repair.
use Rattle.std.specs.Prelude.{ℕ, Bool, true, false, not, ◌&&◌, ◌||◌, List, [], ◌∷◌, map, Option, Some, None}
use Rattle.std.specs.List.{list_any, list_all}
use Rattle.tmm_model.specs.declared.premise.Premise.{Premise}
use Rattle.tmm_model.specs.Answers.{Finding}
use Rattle.tmm_model.specs.Changes.{Delta}
use Rattle.tmm_model.specs.Erasure.{is_among}
use Rattle.tmm_model.specs.Standing.{Standing, premise_in}
use Rattle.repairs.specs.Repairs.{protects}

-- whether a protection was found
abbrev pub found_protection : Option Premise → Bool
found_protection (Some premise) = protects premise
found_protection None = false

-- whether the name is that of a protection of the list
unfoldable pub names_protection : Standing → List ℕ → Bool
names_protection s name = found_protection (premise_in s.premises name)

-- whether none of the names is that of a protection of the list
abbrev pub spares_protections : Standing → List (List ℕ) → Bool
spares_protections s names = not (list_any (names_protection s) names)

-- the names of the broken protections
abbrev pub names_in : List (List ℕ × Finding) → List (List ℕ)
names_in found = map (λ r. r.0) found

-- whether there are none
abbrev pub are_none : List (List ℕ × Finding) → Bool
are_none [] = true
are_none (r ∷ rs) = false

-- What an edit changed in the list tells that the protection of this name is mended: none was
-- erased, none is newly broken, and this one is mended.
abbrev pub tells_mended : Standing → List ℕ → Delta → Bool
tells_mended s name told = spares_protections s told.erased && are_none told.broken && is_among told.mended name

-- The same, where one edit and then another one changed this: what the first broke the second
-- mended, what the second broke the first had mended, and this one was mended at last.
abbrev pub tell_mended : Standing → List ℕ → Delta → Delta → Bool
tell_mended s name first second =
    spares_protections s first.erased
    && list_all (is_among second.mended) (names_in first.broken)
    && list_all (is_among first.mended) (names_in second.broken)
    && (is_among second.mended name || (is_among first.mended name && not (is_among (names_in second.broken) name)))
