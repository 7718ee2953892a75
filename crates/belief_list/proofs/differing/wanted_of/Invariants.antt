use Rattle.std.proofs.Common.{◌≡◌, ℕ, ◌<◌, ◌≤◌, Bool, false, length}
use Rattle.std.specs.Prelude.{slice_index_or}
use Rattle.occ_tree.specs.Standing.{present, early}
use Rattle.occ_tree.specs.Tokens.{numbers_in}
use Rattle.belief_list.proofs.Wanted.{IsNext, IsPassed, IsRowPast}
use Rattle.belief_list.proofs.differing.wanted_of.Given as goal

abbrev pub invariant-loop-i : goal.invariant-loop-i
invariant-loop-i l = record {
  long : length l.wanted.items ≡ length l.rows;
  next : IsNext (early (present l.tree)) l.touched.marks.items (numbers_in l.rows) l.i l.next;
  passed : (j : ℕ) (d : Bool) → l.i ≤ j → j < length l.rows → slice_index_or l.wanted.items j d ≡ false
      → IsPassed (early (present l.tree)) l.touched.marks.items (numbers_in l.rows) l.kept j × IsRowPast l.standing l.tree l.touched l.kept l.rows j;
}
