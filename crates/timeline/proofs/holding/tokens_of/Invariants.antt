use Rattle.std.proofs.Common.{◌≡◌, take}
use Rattle.timeline.specs.Rows.{helds}
use Rattle.timeline.proofs.holding.tokens_of.Given as goal

abbrev pub invariant-loop-row : goal.invariant-loop-row
invariant-loop-row l = l.tokens.items ≡ helds (take l.row-index l.rows)
