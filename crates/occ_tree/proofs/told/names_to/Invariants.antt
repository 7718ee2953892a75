use Rattle.std.proofs.Common.{◌≡◌, ◌++◌, ◌+◌, ◌≤◌, map, length}
use Rattle.std.specs.Prelude.{reverse, vec_len, vec_capacity}
use Rattle.occ_tree.specs.Nodes.{name_at, way_to}
use Rattle.occ_tree.specs.Standing.{nodes_in, present_rows}
use Rattle.occ_tree.proofs.told.names_to.Given as goal

-- the names of the nodes above the one that is reached, and of it, and then those that are written,
-- the last one first
abbrev pub invariant-loop-above : goal.invariant-loop-above
invariant-loop-above l = record {
  names : map (name_at (nodes_in (present_rows l.nodes))) (way_to (nodes_in (present_rows l.nodes)) l.x).numbers
      ≡ map (name_at (nodes_in (present_rows l.nodes))) (way_to (nodes_in (present_rows l.nodes)) l.at).numbers ++ reverse l.names.items;
  long : length (way_to (nodes_in (present_rows l.nodes)) l.at).numbers + l._above ≡ l.depth + 1;
  written : vec_len l.names ≡ l._above;
  room : l.depth + 1 ≤ vec_capacity l.names;
}
