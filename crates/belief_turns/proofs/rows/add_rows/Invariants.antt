use Rattle.std.proofs.Common.{take}
use Rattle.std.specs.List.{filter_map}
use Rattle.tmm_model.specs.Beliefs.{on_kind}
use Rattle.belief_table.specs.Decided.{AreUnder, AddsRows, KeepsLast}
use Rattle.belief_turns.proofs.rows.add_rows.Given as goal

abbrev pub invariant-loop-place : goal.invariant-loop-place
invariant-loop-place l = record {
  adds : AddsRows (filter_map (on_kind l.kind) (take l.place l.standing.present.premises)) l.event l.date l.fn.decisions l.decisions;
  under : AreUnder l.standing.present l.decisions;
  last : KeepsLast l.fn.decisions l.decisions;
}
