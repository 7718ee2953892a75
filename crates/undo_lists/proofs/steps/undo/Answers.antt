use Rattle.std.proofs.Common.{sym, ap, ◌∙◌, subst}
use Rattle.undo_lists.specs.declared.change.Change.{Change}
use Rattle.undo_lists.specs.Rooms.{items_in, rooms_in}
use Rattle.undo_lists.specs.Changes.{before, CanUndo}
use Rattle.undo_lists.proofs.Written.{IsWritten-inserted, IsWritten-removed}
use Rattle.undo_lists.proofs.steps.undo.Goals as goal

pub returns-in-Inserted-clause-before : goal.returns-in-Inserted-clause-before
returns-in-Inserted-clause-before g c =
    let lists = c.args.lists.now.items in
    let there = subst (λ (m : Change g.row.T.Denot). CanUndo (rooms_in lists) m (items_in lists)) c.in-Inserted.is c.requires in
    (IsWritten-removed lists c.in-Inserted.list c.in-Inserted.place c.index_mut.result.now c.remove.new.self c.index_mut.ensures.value c.remove.ensures.room there c.remove.ensures.items).items
    ∙ ap (λ (m : Change g.row.T.Denot). before m (items_in lists)) (sym c.in-Inserted.is)

pub returns-in-Inserted-clause-rooms : goal.returns-in-Inserted-clause-rooms
returns-in-Inserted-clause-rooms g c =
    let lists = c.args.lists.now.items in
    let there = subst (λ (m : Change g.row.T.Denot). CanUndo (rooms_in lists) m (items_in lists)) c.in-Inserted.is c.requires in
    (IsWritten-removed lists c.in-Inserted.list c.in-Inserted.place c.index_mut.result.now c.remove.new.self c.index_mut.ensures.value c.remove.ensures.room there c.remove.ensures.items).rooms

pub returns-in-Removed-clause-before : goal.returns-in-Removed-clause-before
returns-in-Removed-clause-before g c =
    let lists = c.args.lists.now.items in
    let can = subst (λ (m : Change g.row.T.Denot). CanUndo (rooms_in lists) m (items_in lists)) c.in-Removed.is c.requires in
    (IsWritten-inserted lists c.in-Removed.list c.in-Removed.place c.index_mut-in-Removed.result.now c.insert.new.self c.index_mut-in-Removed.ensures.value c.insert.ensures.room c.in-Removed.item can.1 c.insert.ensures.items).items
    ∙ ap (λ (m : Change g.row.T.Denot). before m (items_in lists)) (sym c.in-Removed.is)

pub returns-in-Removed-clause-rooms : goal.returns-in-Removed-clause-rooms
returns-in-Removed-clause-rooms g c =
    let lists = c.args.lists.now.items in
    let can = subst (λ (m : Change g.row.T.Denot). CanUndo (rooms_in lists) m (items_in lists)) c.in-Removed.is c.requires in
    (IsWritten-inserted lists c.in-Removed.list c.in-Removed.place c.index_mut-in-Removed.result.now c.insert.new.self c.index_mut-in-Removed.ensures.value c.insert.ensures.room c.in-Removed.item can.1 c.insert.ensures.items).rooms
