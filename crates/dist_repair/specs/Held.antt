-- A set of points, as a list and as marks.
use Rattle.std.specs.Prelude.{◌≡◌, ℕ, ◌<◌, Bool, true, false, List, length, slice_index_or}
use Rattle.std.specs.List.{All, Contains}

-- the points are numbers below 256, and each number that is marked is one of them
pub record AreMarked (points : List ℕ) (marks : List Bool) : Type 0 where
  pub small : All (λ p. p < 256) points
  pub all : length marks ≡ 256
  pub listed : (p : ℕ) → slice_index_or marks p false ≡ true → Contains points p
