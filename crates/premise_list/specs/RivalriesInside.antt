-- What holds of the fields of kept pairs.
use Rattle.std.specs.Prelude.{◌≡◌, false, ◌≤◌, min, length, vec_capacity}
use Rattle.premise_list.specs.declared.rivalries.Rivalries.TheInside.{Inside}
use Rattle.premise_list.specs.Rivalries.{Pairs}

-- the pairs now and at the last commit
abbrev pub pairs_of : Inside → Pairs
pairs_of r = record { present = r.present.items; committed = r.committed.items; room = min (vec_capacity r.present) (vec_capacity r.committed) }

-- Each list has room to become the other, and they differ only where that is marked.
pub record ArePairs (r : Inside) : Type 0 where
  pub present : length r.present.items ≤ vec_capacity r.committed
  pub committed : length r.committed.items ≤ vec_capacity r.present
  pub same : r.moved ≡ false → r.present.items ≡ r.committed.items
