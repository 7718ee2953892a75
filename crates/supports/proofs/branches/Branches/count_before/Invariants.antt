use Rattle.std.proofs.Common.{ℕ, ◌-◌, ◌<◌, ◌≤◌, length}
use Rattle.occ_tree.specs.Places.{forest}
use Rattle.supports.specs.Entries.{entry_at}
use Rattle.supports.specs.Firsts.{IsBefore}
use Rattle.supports.proofs.branches.Branches.count_before.Given as goal

abbrev pub invariant-loop-low : goal.invariant-loop-low
invariant-loop-low l = record {
  low : l.low ≤ l.high;
  high : l.high ≤ length l.self.entries.items;
  first : (i : ℕ) → i < l.low → IsBefore l.order.net.now.present (forest l.order.tree.now) l.rows l.node l.least (entry_at l.self.entries.items i);
  rest : (i : ℕ) → l.high ≤ i → i < length l.self.entries.items → IsBefore l.order.net.now.present (forest l.order.tree.now) l.rows l.node l.least (entry_at l.self.entries.items i) → ⊥;
}

abbrev pub decreases-loop-low : goal.decreases-loop-low
decreases-loop-low l = l.high - l.low
