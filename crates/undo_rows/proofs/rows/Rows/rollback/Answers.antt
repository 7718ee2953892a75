use Rattle.std.proofs.Common.{◌<◌, sym, ap, ◌∙◌, subst, arith}
use Rattle.undo_rows.specs.Tables.{Table}
use Rattle.undo_rows.specs.Changes.{undone, table_in}
use Rattle.undo_rows.specs.RowsInside.{AreLogged, CanUndoAll}
use Rattle.undo_rows.proofs.Listing.{before-none}
use Rattle.undo_rows.proofs.Undoing.{latest, CanUndoAll-more}
use Rattle.undo_rows.proofs.Gone.{AreLogged-before}
use Rattle.undo_rows.proofs.rows.Rows.rollback.Goals as goal

pub undo-requires : goal.undo-requires
undo-requires g c =
    let room : 64 < 9223372036854775808 = omega arith in
    let links = c.loop-change.self-inside.stored.links in
    (room, (latest links c.loop-change.self-inside.log.items c.pop_since.new.self.items (table_in c.loop-change.self-inside.stored.rows.slots links) c.in-Some.change c.in-Some.ensures.latest c.loop-change.invariant.undoes).can)

pub loop-change-preserved : goal.loop-change-preserved
loop-change-preserved g c =
    let links = c.loop-change.self-inside.stored.links in
    let rest = c.pop_since.new.self.items in
    let u = latest links c.loop-change.self-inside.log.items rest (table_in c.loop-change.self-inside.stored.rows.slots links) c.in-Some.change c.in-Some.ensures.latest c.loop-change.invariant.undoes in
    let table = table_in c.undo.new.self.rows.slots c.undo.new.self.links in
    record {
      undoes = CanUndoAll-more links c.undo.new.self.links c.undo.ensures.as_many rest table (subst (CanUndoAll links rest) (sym c.undo.ensures.before) u.undoes);
      leads = ap (undone rest) c.undo.ensures.before ∙ u.leads ∙ c.loop-change.invariant.leads;
      gone = subst (λ (t : Table g.row.T.Denot g.row.F). AreLogged t.row rest) (sym c.undo.ensures.before)
          (AreLogged-before (table_in c.loop-change.self-inside.stored.rows.slots links) rest c.in-Some.change (subst (AreLogged (table_in c.loop-change.self-inside.stored.rows.slots links).row) c.in-Some.ensures.latest c.loop-change.invariant.gone));
      listed = c.loop-change.invariant.listed;
      places = c.loop-change.invariant.places;
      below = λ x from. ap (λ (t : Table g.row.T.Denot g.row.F). t.row x) c.undo.ensures.before ∙ before-none x c.in-Some.change (table_in c.loop-change.self-inside.stored.rows.slots links) (c.loop-change.invariant.below x from);
      few = c.loop-change.invariant.few;
    }
