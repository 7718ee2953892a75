-- Where the lines of an event begin.
use Rattle.std.specs.Prelude.{ℕ, ◌+◌, ◌*◌, ◌-◌}

-- How many lines the events below j take: three each, and one more from event 60 on, which erases.
abbrev pub lines_below : ℕ → ℕ
lines_below j = j * 3 + (j - 60)
