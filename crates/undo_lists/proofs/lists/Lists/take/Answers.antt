use Rattle.std.proofs.Common.{ℕ, List, ◌<◌, length, sym, ap, ◌∙◌, subst, slice_index_or}
use Rattle.undo_lists.specs.Rooms.{without_item}
use Rattle.undo_lists.proofs.lists.Lists.take.Goals as goal

pub remove-requires-clause-place : goal.remove-requires-clause-place
remove-requires-clause-place g c = subst (λ (lists : ℕ → List g.row.T.Denot). c.args.place < length (lists c.args.number)) (sym c.reserve.ensures.present) c.requires

pub returns-clause-item : goal.returns-clause-item
returns-clause-item g c = c.remove.ensures.item ∙ ap (λ (lists : ℕ → List g.row.T.Denot). slice_index_or (lists c.args.number) c.args.place c.remove.result) c.reserve.ensures.present

pub returns-clause-ok : goal.returns-clause-ok
returns-clause-ok g c = c.remove.ensures.present ∙ ap (λ (lists : ℕ → List g.row.T.Denot). without_item lists c.args.number c.args.place) c.reserve.ensures.present
