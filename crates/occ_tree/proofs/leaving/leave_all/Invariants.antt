use Rattle.std.proofs.Common.{◌≡◌, ◌*◌, ◌≤◌, ℕ, List, [], ◌++◌, length}
use Rattle.undo_lists.specs.Changes.{present, committed}
use Rattle.occ_tree.specs.Below.{without_rows}
use Rattle.occ_tree.specs.Standing.{nodes_in, present_rows, committed_rows}
use Rattle.occ_tree.specs.Tokens.{AreTokensBut}
use Rattle.occ_tree.proofs.leaving.leave_all.Given as goal

abbrev pub invariant-loop-x : goal.invariant-loop-x
invariant-loop-x l = record {
  gone : (back : List ℕ) × (l.fn.numbers.items ≡ l.left.items ++ back) × (present_rows l.nodes ≡ without_rows back (present_rows l.fn.nodes));
  committed_rows : committed_rows l.nodes ≡ committed_rows l.fn.nodes;
  places : l.nodes.rows.places ≡ l.fn.nodes.rows.places;
  tokens : AreTokensBut (nodes_in (present_rows l.nodes)) (present l.tokens) [];
  committed : committed l.tokens ≡ committed l.fn.tokens;
  room : (2 * length l.left.items ≤ l.nodes.rows.spare) × (length l.left.items ≤ l.tokens.spare);
}

abbrev pub decreases-loop-x : goal.decreases-loop-x
decreases-loop-x l = length l.left.items
