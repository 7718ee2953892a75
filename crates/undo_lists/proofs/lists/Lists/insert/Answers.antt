use Rattle.std.proofs.Common.{◌<◌, ◌≤◌, length, sym, subst, slice_set}
use Rattle.undo_lists.specs.Rooms.{with_item, items_in}
use Rattle.undo_lists.specs.Changes.{Logged, present, rooms}
use Rattle.undo_lists.proofs.Undoing.{IsLogged, IsLogged-inserted}
use Rattle.undo_lists.proofs.lists.Lists.insert.Given.{Over}
use Rattle.undo_lists.proofs.lists.Lists.insert.Goals as goal

logged : (g : Over) (c : goal.After-push g) → IsLogged c.self.inside.lists.items (slice_set c.self.inside.lists.items c.args.number c.insert.new.self) c.self.inside.log.items c.push.new.self.items (with_item (items_in c.self.inside.lists.items) c.args.number c.args.place c.args.item)
logged g c =
    let place = subst (λ (l : Logged g.row.T.Denot). c.args.place ≤ length (present l c.args.number)) (sym c.self.view_is) c.requires.place in
    let room = subst (λ (l : Logged g.row.T.Denot). length (present l c.args.number) < rooms l c.args.number) (sym c.self.view_is) c.requires.room in
    IsLogged-inserted c.self.inside.lists.items c.self.inside.log.items c.push.new.self.items c.args.number c.args.place c.args.item c.index_mut.result.now c.insert.new.self
    c.index_mut.ensures.value c.insert.ensures.room c.self.invariant place room c.insert.ensures.items c.push.ensures.items

pub invariant_of-self : goal.invariant_of-self
invariant_of-self g c = (logged g c).all

pub returns-clause-committed : goal.returns-clause-committed
returns-clause-committed g c = rw (← c.self.view_is) (logged g c).committed

pub returns-clause-rooms : goal.returns-clause-rooms
returns-clause-rooms g c = rw (← c.self.view_is) (logged g c).rooms
