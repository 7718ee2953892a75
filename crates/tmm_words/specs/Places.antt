-- Where words stand in a line.
use Rattle.std.specs.Prelude.{◌≡◌, ℕ, ◌≤◌, ◌<◌, false, List, length, drop, slice_range}
use Rattle.tmm_model.specs.Lines.{goes_on}
use Rattle.tmm_grammar.specs.LineCuts.{AreBlanks, IsWord}

-- from `begin` to `end` stands the first word at or after `from`: blanks before it, and it goes on
-- no further
pub record IsFirstWord (line : List ℕ) (from begin end : ℕ) : Type 0 where
  pub after : from ≤ begin
  pub some : begin < end
  pub within : end ≤ length line
  pub gap : AreBlanks (slice_range line from begin)
  pub word : IsWord (slice_range line begin end)
  pub ends : goes_on (drop end line) ≡ false
