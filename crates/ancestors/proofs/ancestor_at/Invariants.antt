use Rattle.std.proofs.Common.{◌≡◌, ◌<◌, length, take}
use Rattle.ancestors.proofs.ancestor_at.Given as goal

abbrev pub invariant-loop-at : goal.invariant-loop-at
invariant-loop-at g l =
    record {
      within : l.depth < length (g.A.Ancestry.way l.tree l.at);
      front : g.A.Ancestry.way l.tree l.at ≡ take (length (g.A.Ancestry.way l.tree l.at)) (g.A.Ancestry.way l.tree l.x);
    }

abbrev pub decreases-loop-at : goal.decreases-loop-at
decreases-loop-at g l = length (g.A.Ancestry.way l.tree l.at)
