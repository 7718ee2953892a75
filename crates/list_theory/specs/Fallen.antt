-- What an erasure retracts, in the order of the list.
use Rattle.std.specs.Prelude.{ℕ, true, false, List, [], ◌∷◌, ◌++◌}
use Rattle.tmm_model.specs.declared.premise.Premise.{Premise}
use Rattle.tmm_model.specs.Sorts.{declared_by}
use Rattle.tmm_model.specs.Erasure.{falls}

module _ (erased : List ℕ) where
  -- those that fall
  abbrev pub fallen_after : List (List ℕ) → List Premise → List Premise
  fallen_after gone [] = []
  fallen_after gone (premise ∷ premises) =
      elim (falls erased gone premise) [ true ↦ premise ∷ fallen_after (declared_by premise ++ gone) premises | false ↦ fallen_after gone premises ]

-- the retracted premises
abbrev pub fallen_with : List ℕ → List Premise → List Premise
fallen_with erased premises = fallen_after erased [] premises
