-- The room that a row takes.
use denote.RattleType.{RattleType}
use Rattle.std.specs.Mem.{FitsInMemory}
use Rattle.undo_rows.specs.contracts.row.Row.{the_row}

-- a row of such values on so many families of lists takes fewer than 2 ^ 63 bytes
abbrev pub RowFits : (T F : RattleType) → Type 0
RowFits T F = FitsInMemory (the_row T F)
