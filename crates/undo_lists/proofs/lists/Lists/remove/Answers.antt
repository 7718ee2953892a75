use Rattle.std.proofs.Common.{◌<◌, length, sym, subst, slice_set}
use Rattle.undo_lists.specs.Rooms.{without_item, items_in}
use Rattle.undo_lists.specs.Changes.{Logged, present}
use Rattle.undo_lists.proofs.Undoing.{IsLogged, IsLogged-removed}
use Rattle.undo_lists.proofs.lists.Lists.remove.Given.{Over}
use Rattle.undo_lists.proofs.lists.Lists.remove.Goals as goal

logged : (g : Over) (c : goal.After-push g) → IsLogged c.self.inside.lists.items (slice_set c.self.inside.lists.items c.args.number c.remove-item.new.self) c.self.inside.log.items c.push.new.self.items (without_item (items_in c.self.inside.lists.items) c.args.number c.args.place)
logged g c =
    let place = subst (λ (l : Logged g.row.T.Denot). c.args.place < length (present l c.args.number)) (sym c.self.view_is) c.requires.place in
    IsLogged-removed c.self.inside.lists.items c.self.inside.log.items c.push.new.self.items c.args.number c.args.place c.remove-item.result c.index_mut.result.now c.remove-item.new.self
    c.index_mut.ensures.value c.remove-item.ensures.room c.self.invariant place c.remove-item.ensures.item c.remove-item.ensures.items c.remove-item.ensures.left c.push.ensures.items

pub invariant_of-self : goal.invariant_of-self
invariant_of-self g c = (logged g c).all

pub returns-clause-present : goal.returns-clause-present
returns-clause-present g c = rw (← c.self.view_is) (logged g c).present

pub returns-clause-committed : goal.returns-clause-committed
returns-clause-committed g c = rw (← c.self.view_is) (logged g c).committed

pub returns-clause-rooms : goal.returns-clause-rooms
returns-clause-rooms g c = rw (← c.self.view_is) (logged g c).rooms
