-- The two lists that a `Standing` keeps.
use Rattle.tmm_model.specs.Standing.{Standing}

-- the present list, and that of the last commit
pub record States : Type 0 where
  pub present : Standing
  pub committed : Standing
