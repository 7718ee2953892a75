use Rattle.std.proofs.Common.{subst}
use Rattle.undo_lists.specs.Rooms.{HaveGrown}
use Rattle.undo_lists.proofs.Undoing.{CanUndoAll-grown}
use Rattle.undo_lists.proofs.lists.Lists.copy.Goals as goal

pub invariant_of-result : goal.invariant_of-result
invariant_of-result g c =
    CanUndoAll-grown c.self.inside.lists.items c.in_ok-lists.lists.items c.self.inside.log.items c.in_ok-log.log.items (subst (λ lists. HaveGrown lists c.in_ok-lists.lists.items) c.as_slice.ensures.value c.in_ok-lists.ensures) c.in_ok-log.ensures c.self.invariant
