use Rattle.std.proofs.Common.{◌*◌, ◌^◌, ◌<◌, ◌≤◌, slice_index_or, ◌≡◌, ℕ, length, None}
use Rattle.undo_rows.specs.Tables.{AreListed, live}
use Rattle.undo_rows.specs.Changes.{table_in}
use Rattle.undo_rows.specs.RowsInside.{AreLogged}
use Rattle.undo_rows.proofs.rows.Rows.commit.Given as goal

abbrev pub invariant-loop-done : goal.invariant-loop-done
invariant-loop-done g l = record {
  links : l.self-inside.stored.links ≡ l.fn.self.families;
  rows : (x : ℕ) → live ((table_in l.self-inside.stored.rows.slots l.self-inside.stored.links).row x) ≡ live ((table_in l.fn.self.rows l.fn.self.families).row x);
  places : l.self-inside.places ≡ l.fn.self.places;
  below : (x : ℕ) → l.fn.self.places ≤ x → slice_index_or l.self-inside.stored.rows.slots x None ≡ None;
  few : g.row.F * 8 < 2 ^ 63;
  gone : AreLogged (λ x. slice_index_or l.self-inside.stored.rows.slots x None) l.self-inside.log.items;
  listed : AreListed (table_in l.fn.self.rows l.fn.self.families);
}

abbrev pub decreases-loop-done : goal.decreases-loop-done
decreases-loop-done g l = length l.self-inside.log.items
