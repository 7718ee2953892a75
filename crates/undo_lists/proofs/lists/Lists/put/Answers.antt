use Rattle.std.proofs.Common.{ℕ, List, ◌≤◌, length, sym, ap, ◌∙◌, subst}
use Rattle.undo_lists.specs.Rooms.{with_item}
use Rattle.undo_lists.proofs.lists.Lists.put.Goals as goal

pub insert-requires-clause-place : goal.insert-requires-clause-place
insert-requires-clause-place g c = subst (λ (lists : ℕ → List g.row.T.Denot). c.args.place ≤ length (lists c.args.number)) (sym c.reserve.ensures.present) c.requires

pub returns-clause-ok : goal.returns-clause-ok
returns-clause-ok g c = c.insert.ensures.present ∙ ap (λ (lists : ℕ → List g.row.T.Denot). with_item lists c.args.number c.args.place c.args.item) c.reserve.ensures.present
