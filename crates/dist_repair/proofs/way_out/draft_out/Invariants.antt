use Rattle.dist_repair.proofs.Ways.{IsDraftingOut}
use Rattle.dist_repair.proofs.way_out.draft_out.Given as goal

abbrev pub invariant-loop-b : goal.invariant-loop-b
invariant-loop-b l = IsDraftingOut l.fn.net l.place l.from l.b l.net
