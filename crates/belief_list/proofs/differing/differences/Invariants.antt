use Rattle.std.proofs.Common.{◌≡◌, ℕ, ◌<◌, true, List, length}
use Rattle.std.specs.Prelude.{slice_index_or, IfSome}
use Rattle.projection.specs.Kinds.{IsCountIn}
use Rattle.belief_list.specs.Finding.{mark_under, IsClassSettled, AreClassesSettled, AreFound}
use Rattle.belief_list.proofs.differing.differences.Given as goal

abbrev pub invariant-loop-class : goal.invariant-loop-class
invariant-loop-class l = record {
  long : length l.found.marks.items ≡ length l.kept;
  found : AreFound l.map.standing.now.present l.map.net.now.present l.map.tree.now l.classes l.kept l.found.marks.items l.found.differences.items;
  done : (j : ℕ) (d : List ℕ) → j < l.class-index → IsClassSettled l.map.standing.now l.map.tree.now l.nodes l.kept l.found.marks.items (slice_index_or l.classes j d);
}

abbrev pub invariant-loop-x : goal.invariant-loop-x
invariant-loop-x l = record {
  long : length l.found.marks.items ≡ length l.kept;
  found : AreFound l.map.standing.now.present l.map.net.now.present l.map.tree.now l.classes l.kept l.found.marks.items l.found.differences.items;
  classes : AreClassesSettled l.map.standing.now l.map.tree.now l.nodes l.kept l.found.marks.items l.classes;
  counted : IfSome l.last (IsCountIn l.map.standing.now.present);
  done : (j d : ℕ) → j < l.x-index → mark_under l.found.marks.items (slice_index_or l.nodes j d) ≡ true;
}
