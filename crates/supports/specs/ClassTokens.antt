-- The tokens that may contradict those of a fact, in several lists.
use Rattle.std.specs.Prelude.{ℕ, ◌<◌, true, false, List, [], ◌∷◌, map, length, Option, Some, None}
use Rattle.std.specs.Option.{option_and_then}
use Rattle.tmm_model.specs.declared.token.TokenRow.{TokenRow}
use Rattle.tmm_model.specs.Points.{same_name}
use Rattle.tmm_model.specs.Sorts.{class_in}
use Rattle.tmm_model.specs.Standing.{Standing}
use Rattle.premise_list.specs.Rivalries.{rivalries}
use Rattle.spots.specs.declared.spot.Spot.{Spot}
use Rattle.clipping.specs.Across.{list_at}
use Rattle.occ_tree.specs.Standing.{Kept, present, order}
use Rattle.occ_tree.specs.Tokens.{IsInOrder, numbers_in}

-- the other fact of a pair that has this one
abbrev pub other_in : List ℕ → List ℕ × List ℕ → Option (List ℕ)
other_in fact pair = elim (same_name pair.0 fact) [ true ↦ Some pair.1 | false ↦ elim (same_name pair.1 fact) [ true ↦ Some pair.0 | false ↦ None ] ]

-- the class of that fact
abbrev pub class_against : Standing → List ℕ → List ℕ × List ℕ → Option (List ℕ)
class_against s fact pair = option_and_then (class_in s.premises) (other_in fact pair)

-- the tokens of a class, where there is one and it is none of those that stand in the first list
abbrev pub of_other : (List ℕ → List (TokenRow Spot)) → List ℕ → Option (List ℕ) → List (TokenRow Spot)
of_other tokens class None = []
of_other tokens class (Some other) = elim (same_name other class) [ true ↦ [] | false ↦ tokens other ]

-- the tokens of the class of a fact, and then, for each pair of facts that a premise sets against
-- each other, those of the class of the other fact
abbrev pub class_lists : Standing → (List ℕ → List (TokenRow Spot)) → List ℕ → List ℕ → List (List (TokenRow Spot))
class_lists s tokens fact class = tokens class ∷ map (λ pair. of_other tokens class (class_against s fact pair)) (rivalries s.premises)
