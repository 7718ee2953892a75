use Rattle.std.proofs.Common.{◌≡◌, ℕ, ◌<◌, true, List, length}
use Rattle.std.specs.Prelude.{slice_index_or}
use Rattle.occ_tree.specs.Tokens.{numbers_in}
use Rattle.belief_list.specs.Finding.{mark_under, MarksStay, AreFound}
use Rattle.belief_list.proofs.differing.tell_class.Given as goal

abbrev pub invariant-loop-i : goal.invariant-loop-i
invariant-loop-i l = record {
  long : length l.found.marks.items ≡ length l.kept;
  found : (classes : List (List ℕ)) → AreFound l.map.standing.now.present l.map.net.now.present l.map.tree.now classes l.kept l.fn.found.marks.items l.fn.found.differences.items
      → AreFound l.map.standing.now.present l.map.net.now.present l.map.tree.now classes l.kept l.found.marks.items l.found.differences.items;
  done : (j : ℕ) → j < l.i → slice_index_or l.wanted.items j true ≡ true → mark_under l.found.marks.items (slice_index_or (numbers_in l.rows) j 0) ≡ true;
  stay : MarksStay l.fn.found.marks.items l.found.marks.items;
}
