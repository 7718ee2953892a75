use Rattle.std.proofs.Common.{◌≡◌, ◌<◌, length}
use Rattle.ancestors.specs.Ways.{shared_front}
use Rattle.ancestors.proofs.lowest_common.Given as goal

abbrev pub invariant-loop-first : goal.invariant-loop-first
invariant-loop-first g l =
    record {
      node : 0 < length (g.A.Ancestry.way l.tree l.first);
      level : length (g.A.Ancestry.way l.tree l.second) ≡ length (g.A.Ancestry.way l.tree l.first);
      shared : shared_front (g.A.Ancestry.way l.tree l.first) (g.A.Ancestry.way l.tree l.second) ≡ shared_front (g.A.Ancestry.way l.tree l.x) (g.A.Ancestry.way l.tree l.y);
    }

abbrev pub decreases-loop-first : goal.decreases-loop-first
decreases-loop-first g l = length (g.A.Ancestry.way l.tree l.first)
