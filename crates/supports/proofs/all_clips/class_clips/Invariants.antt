use Rattle.std.proofs.Common.{◌≡◌, ℕ, ◌<◌, ◌≤◌, true, false}
use Rattle.std.specs.Prelude.{Option, IfSome, length, slice_index_or}
use Rattle.std.specs.List.{All}
use Rattle.supports.specs.Entries.{AreBranches}
use Rattle.occ_tree.specs.Places.{forest}
use Rattle.occ_tree.specs.Tokens.{numbers_in}
use Rattle.spots.specs.Forest.{IsLive}
use Rattle.supports.specs.Behind.{IsClip}
use Rattle.supports.specs.Near.{AreAlike}
use Rattle.supports.proofs.all_clips.class_clips.Given as goal

abbrev pub invariant-loop-i : goal.invariant-loop-i
invariant-loop-i l = record {
  within : l.i ≤ length l.rows;
  count : length l.clips.items ≡ length l.rows;
  live : All (λ clip. IfSome clip (IsLive (forest l.tree))) l.clips.items;
  clip : (j : ℕ) (d : Option ℕ) → l.i ≤ j → j < length l.rows → slice_index_or l.wanted j false ≡ true → IsClip l.standing.present l.net.present (forest l.tree) (slice_index_or (numbers_in l.rows) j 0) (slice_index_or l.clips.items j d);
  passed : AreAlike l.rows l.passed;
  branches : IfSome l.branches (AreBranches (forest l.tree) l.rows);
}
