-- What sources that hold their bytes give.
use Rattle.std.specs.Prelude.{ℕ, List}

-- a source whose listed calls fail
pub record Given : Type 0 where
  pub left : List ℕ
  pub piece : ℕ
  pub calls : ℕ
  pub fails : List ℕ
  pub faults : ℕ

-- a source that never fails
pub record Steady : Type 0 where
  pub left : List ℕ
  pub piece : ℕ

-- a source of a line again and again: the place in the line that is next, and how many bytes are
-- left
pub record Repeated : Type 0 where
  pub line : List ℕ
  pub at : ℕ
  pub left : ℕ
