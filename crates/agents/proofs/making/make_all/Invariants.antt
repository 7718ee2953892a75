use Rattle.std.proofs.Common.{◌≡◌, None, take}
use Rattle.agents.specs.Commits.{AcceptedInTurn, list_after}
use Rattle.agents.proofs.making.make_all.Given as goal

abbrev pub invariant-loop-held : goal.invariant-loop-held
invariant-loop-held g l = record {
  accepted : AcceptedInTurn (g.M.MapCore.list l.fn.core) (take l.held-index l.edits) l.all.items;
  list : g.M.MapCore.list l.core ≡ list_after (g.M.MapCore.list l.fn.core) (take l.held-index l.edits);
  idle : g.M.MapCore.pending l.core ≡ None;
}
