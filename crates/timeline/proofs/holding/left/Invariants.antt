use Rattle.std.proofs.Common.{◌≡◌, take}
use Rattle.std.specs.Prelude.{filter}
use Rattle.timeline.specs.Holding.{goes_on}
use Rattle.timeline.proofs.holding.left.Given as goal

abbrev pub invariant-loop-held : goal.invariant-loop-held
invariant-loop-held l = l.left.items ≡ filter (goes_on l.standing.present l.day l.coming) (take l.held-index l.before)
