use Rattle.undo_rows.proofs.Listing.{AreListed-live}
use Rattle.undo_rows.specs.Changes.{table_in}
use Rattle.undo_rows.proofs.rows.Rows.first.Goals as goal

pub returns-clause-listed : goal.returns-clause-listed
returns-clause-listed g c = rw (← c.self.view_is) (AreListed-live (table_in c.self.inside.stored.rows.slots c.self.inside.stored.links) c.self.invariant.0.now_listed)
