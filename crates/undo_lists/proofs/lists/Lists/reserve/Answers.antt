use Rattle.undo_lists.proofs.Undoing.{CanUndoAll-grown}
use Rattle.undo_lists.proofs.lists.Lists.reserve.Goals as goal

pub invariant_of-self-2 : goal.invariant_of-self-2
invariant_of-self-2 g c =
    CanUndoAll-grown c.self.inside.lists.items c.reserve_at.new.lists.items c.self.inside.log.items c.reserve.new.self.items c.reserve_at.ensures.grown c.reserve.ensures.items c.self.invariant
