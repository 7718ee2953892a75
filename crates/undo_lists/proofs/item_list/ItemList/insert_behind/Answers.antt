use Rattle.std.proofs.Common.{◌≡◌, ◌≤◌, ◌+◌, length, drop, sym, ap, ◌∙◌, subst, arith, insert, rules}
use Rattle.std.proofs.lemmas.List.{length-drop}
use Rattle.undo_lists.specs.Rooms.{ListRoom}
use Rattle.undo_lists.proofs.Shifted.{drop-insert}
use Rattle.undo_lists.proofs.item_list.ItemList.insert_behind.Goals as goal

pub returns-clause-items : goal.returns-clause-items
returns-clause-items g c =
    let places = c.free_back-self-inside.new.places.items in
    let start = c.free_back-self-inside.result in
    let put : c.insert.new.self.items ≡ insert places (start + c.args.place) c.args.item = search rules in
    let same : drop start places ≡ c.args.self.now.items = c.free_back-self-inside.ensures.items ∙ ap (λ (l : ListRoom g.row.T.Denot). l.items) c.self.view_is in
    let there : c.args.place ≤ length (drop start places) = subst (λ l. c.args.place ≤ length l) (sym same) c.requires.place in
    let starts : start ≤ length places = search rules in
    let within : start + c.args.place ≤ length places = omega (arith, there, starts, length-drop start places) in
    ap (drop start) put ∙ drop-insert places start c.args.place c.args.item within ∙ ap (λ l. insert l c.args.place c.args.item) same
