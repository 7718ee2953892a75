-- Rows of a list that are let wait, by their events.
use Rattle.std.specs.Prelude.{◌≡◌, ℕ, true}
use Rattle.row_links.specs.Lists.{IsOn}
use Rattle.undo_rows.specs.declared.row.Row.{Row as TableRow}
use Rattle.undo_rows.specs.Tables.{Table}
use Rattle.decision_rows.specs.declared.row.Pair.{Pair}
use Rattle.occ_tree.specs.Standing.{State}
use Rattle.bearing.specs.declared.events.Events.{Events}
use Rattle.bearing.specs.Events.{is_event_of}

-- the row is on the list of a head in a family, at one of these events
abbrev pub IsOnAt : Table Pair 8 → ℕ → ℕ → Events → State → ℕ → TableRow Pair 8 → Type 0
IsOnAt t family head events s i row = IsOn (t.list family head) i × (is_event_of events s row.value.trigger ≡ true)

-- the row is of the rule of this number, at one of these events
abbrev pub IsOfRuleAt : Table Pair 8 → ℕ → Events → State → ℕ → TableRow Pair 8 → Type 0
IsOfRuleAt t = IsOnAt t 1
