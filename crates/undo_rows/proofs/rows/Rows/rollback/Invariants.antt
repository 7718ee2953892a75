use Rattle.std.proofs.Common.{◌*◌, ◌^◌, ◌<◌, ◌≤◌, ℕ, None, ◌≡◌, length}
use Rattle.undo_rows.specs.Tables.{AreListed}
use Rattle.undo_rows.specs.Changes.{undone, table_in}
use Rattle.undo_rows.specs.RowsInside.{AreLogged, CanUndoAll}
use Rattle.undo_rows.proofs.rows.Rows.rollback.Given as goal

abbrev pub invariant-loop-change : goal.invariant-loop-change
invariant-loop-change g l = record {
  undoes : CanUndoAll l.self-inside.stored.links l.self-inside.log.items (table_in l.self-inside.stored.rows.slots l.self-inside.stored.links);
  leads : undone l.self-inside.log.items (table_in l.self-inside.stored.rows.slots l.self-inside.stored.links) ≡ undone l.fn.self.log (table_in l.fn.self.rows l.fn.self.families);
  places : l.self-inside.places ≡ l.fn.self.places;
  below : (x : ℕ) → l.fn.self.places ≤ x → (table_in l.self-inside.stored.rows.slots l.self-inside.stored.links).row x ≡ None;
  few : g.row.F * 8 < 2 ^ 63;
  gone : AreLogged (table_in l.self-inside.stored.rows.slots l.self-inside.stored.links).row l.self-inside.log.items;
  listed : AreListed (undone l.fn.self.log (table_in l.fn.self.rows l.fn.self.families));
}

abbrev pub decreases-loop-change : goal.decreases-loop-change
decreases-loop-change g l = length l.self-inside.log.items
