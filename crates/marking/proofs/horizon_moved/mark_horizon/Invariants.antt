use Rattle.std.proofs.Common.{◌≡◌}
use Rattle.occ_tree.specs.Standing.{present}
use Rattle.belief_table.specs.Decided.{table_of}
use Rattle.marking.specs.Horizons.{IsDueBetween}
use Rattle.belief_table.specs.Marks.{Marks}
use Rattle.belief_table.specs.Waiting.{dates_in}
use Rattle.belief_table.proofs.OfRules.{OfFirst}
use Rattle.marking.proofs.horizon_moved.mark_horizon.Given as goal

abbrev pub invariant-loop-rule : goal.invariant-loop-rule
invariant-loop-rule l = record {
  marks : Marks (present l.tree) (table_of l.fn.decisions) (OfFirst (IsDueBetween l.standing.present (present l.tree) l.fn.decisions l.before l.after) l.rule) (dates_in l.fn.decisions.waiting) (dates_in l.decisions.waiting);
  others : l.decisions ≡ record l.fn.decisions { waiting = l.decisions.waiting };
}
