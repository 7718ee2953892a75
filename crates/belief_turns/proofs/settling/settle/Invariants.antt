use Rattle.std.specs.Prelude.{◌≤◌}
use Rattle.occ_tree.specs.Standing.{present}
use Rattle.projection.specs.Kinds.{AreKnown}
use Rattle.marking.specs.Covered.{Covers}
use Rattle.belief_table.specs.LastCommit.{KeepLast}
use Rattle.belief_turns.specs.Numbered.{StayNumbered}
use Rattle.belief_turns.specs.Settling.{IfBegun, IsSoFar}
use Rattle.belief_turns.specs.Telling.{IsWeighed}
use Rattle.belief_turns.specs.Turning.{IsFit, IsRevising}
use Rattle.belief_turns.proofs.settling.settle.Given as goal

abbrev pub invariant-loop : goal.invariant-loop
invariant-loop l = record {
  fit : IsFit l.standing.present l.net.present l.beliefs;
  revising : IsRevising l.standing.present l.net.present l.beliefs;
  weighed : IsWeighed l.standing.present l.told;
  covered : Covers l.standing.present (present l.beliefs.tree) l.beliefs.decisions l.marks;
  known : AreKnown l.standing.present l.known;
  so_far : IfBegun l.standing.present l.net.present l.fn.beliefs l.fn.told (IsSoFar l.net.present l.beliefs l.told l.fn.count l.count);
  numbered : StayNumbered l.standing.present l.fn.beliefs l.beliefs l.fn.told l.told;
  rises : (l.fn.count ≤ l.count) × (l.count ≤ 18446744073709551615);
  last : KeepLast l.fn.beliefs l.beliefs;
}
