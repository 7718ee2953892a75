use Rattle.std.proofs.Common.{sym, ap, ◌∙◌, subst, le_trans, arith}
use Rattle.undo_lists.specs.Rooms.{items_in, rooms_in}
use Rattle.undo_lists.specs.Changes.{undone, CanUndoAll}
use Rattle.undo_lists.proofs.Undoing.{latest}
use Rattle.undo_lists.proofs.lists.Lists.rollback.Goals as goal

pub undo-requires : goal.undo-requires
undo-requires g c =
    let lists = c.loop-change.self-inside.lists.items in
    (latest (rooms_in lists) c.loop-change.self-inside.log.items c.pop_since.new.self.items c.in-Some.change (items_in lists) c.in-Some.ensures.latest c.loop-change.invariant.all).can

pub loop-change-preserved : goal.loop-change-preserved
loop-change-preserved g c =
    let lists = c.loop-change.self-inside.lists.items in
    let rest = c.pop_since.new.self.items in
    let u = latest (rooms_in lists) c.loop-change.self-inside.log.items rest c.in-Some.change (items_in lists) c.in-Some.ensures.latest c.loop-change.invariant.all in
    let new = c.undo.new.lists.items in
    record {
      all = subst (λ r. CanUndoAll r rest (items_in new)) (sym c.undo.ensures.rooms) (subst (CanUndoAll (rooms_in lists) rest) (sym c.undo.ensures.before) u.all);
      leads = ap (undone rest) c.undo.ensures.before ∙ u.leads ∙ c.loop-change.invariant.leads;
      rooms = c.undo.ensures.rooms ∙ c.loop-change.invariant.rooms;
      spare = le_trans c.loop-change.invariant.spare (let more = c.in-Some.ensures.spare in omega (arith, more));
    }
