-- The place from which an erasure walks.
use Rattle.std.specs.Prelude.{ℕ, ◌≡◌, ◌<◌, List, ◌++◌, length, take, drop}
use Rattle.tmm_model.specs.declared.premise.Premise.{Premise}
use Rattle.tmm_model.specs.Erasure.{kept_without}
use Rattle.list_theory.specs.Fallen.{fallen_with}

-- a place of the list before which every premise stays where this name is erased
pub record IsFoundAt (name : List ℕ) (premises : List Premise) (place : ℕ) : Type 0 where
  pub within : place < length premises
  pub kept : kept_without name premises ≡ take place premises ++ kept_without name (drop place premises)
  pub fallen : fallen_with name premises ≡ fallen_with name (drop place premises)
