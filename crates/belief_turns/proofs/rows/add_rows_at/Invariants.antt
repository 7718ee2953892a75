use Rattle.std.proofs.Common.{map, take}
use Rattle.projection.specs.Places.{name_at}
use Rattle.belief_table.specs.Decided.{AreUnder, AddsRows, KeepsLast}
use Rattle.belief_turns.proofs.rows.add_rows_at.Given as goal

abbrev pub invariant-loop-place : goal.invariant-loop-place
invariant-loop-place l = record {
  adds : AddsRows (map (name_at l.standing.present) (take l.place-index l.places)) l.event l.date l.fn.decisions l.decisions;
  under : AreUnder l.standing.present l.decisions;
  last : KeepsLast l.fn.decisions l.decisions;
}
