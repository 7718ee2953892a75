use Rattle.supports.specs.Entries.{AreSkipsFrom}
use Rattle.supports.proofs.skips.skips_of.Given as goal

abbrev pub invariant-loop-i : goal.invariant-loop-i
invariant-loop-i l = AreSkipsFrom l.rows l.entries l.skips.items l.i
