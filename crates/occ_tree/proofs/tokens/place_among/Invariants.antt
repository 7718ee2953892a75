use Rattle.std.proofs.Common.{◌≡◌, ◌≢◌, ℕ, ◌≤◌, ◌-◌, length, take, drop}
use Rattle.std.specs.declared.cmp.Ordering.TheVariants.{Less}
use Rattle.row_links.specs.Lists.{IsOn}
use Rattle.occ_tree.specs.Standing.{nodes_in, present_rows}
use Rattle.occ_tree.specs.Tokens.{numbers_in}
use Rattle.occ_tree.specs.Words.{node_cmp}
use Rattle.occ_tree.proofs.tokens.place_among.Given as goal

abbrev pub invariant-loop-low : goal.invariant-loop-low
invariant-loop-low l = record {
  low : l.low ≤ l.high;
  high : l.high ≤ length l.rows;
  before : (y : ℕ) → IsOn (take l.low (numbers_in l.rows)) y → node_cmp (nodes_in (present_rows l.nodes)) y l.x ≡ Less;
  after : (y : ℕ) → IsOn (drop l.high (numbers_in l.rows)) y → node_cmp (nodes_in (present_rows l.nodes)) y l.x ≢ Less;
}

abbrev pub decreases-loop-low : goal.decreases-loop-low
decreases-loop-low l = l.high - l.low
