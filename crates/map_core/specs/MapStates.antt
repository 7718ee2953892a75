-- A map as its callers see it.
use Rattle.std.specs.Prelude.{Option}
use Rattle.tmm_model.specs.Standing.{Standing}

-- the list of the last commit, and the one that a pending edit leaves
pub record MapState : Type 0 where
  pub list : Standing
  pub pending : Option Standing
