use Rattle.std.proofs.Common.{◌<◌, ◌+◌, length, sym, subst, arith}
use Rattle.std.proofs.lemmas.List.{length-drop}
use Rattle.undo_lists.specs.Rooms.{ListRoom}
use Rattle.undo_lists.proofs.Shifted.{drop-remove}
use Rattle.undo_lists.proofs.item_list.ItemList.remove.Goals as goal

pub returns-else-place-behind-clause-items : goal.returns-else-place-behind-clause-items
returns-else-place-behind-clause-items g c =
    let places = c.self.inside.places.items in
    let start = c.self.inside.start in
    let there = subst (λ (l : ListRoom g.row.T.Denot). c.args.place < length l.items) (sym c.self.view_is) c.requires in
    let within : start + c.args.place < length places = omega (arith, there, length-drop start places) in
    rw (← c.self.view_is) (rw c.remove.ensures.items (drop-remove places start c.args.place within))
