use Rattle.std.proofs.Common.{ℕ, List, subst}
use Rattle.std.specs.List.{Contains}
use Rattle.undo_lists.specs.Rooms.{items_in}
use Rattle.undo_lists.proofs.Changed.{others_stay, all_told}
use Rattle.undo_lists.proofs.lists.Lists.changed.Goals as goal

pub returns-clause-others : goal.returns-clause-others
returns-clause-others g c n other =
    let lists = c.args.self.now in
    let told = all_told lists.log c.loop-change.log.items c.loop-change.numbers.items c.in_default.ensures.none.0 c.loop-change.invariant.told in
    others_stay lists.log (items_in lists.lists) n (subst (λ (l : List ℕ). Contains l n → ⊥) told other)
