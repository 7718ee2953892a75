use Rattle.std.proofs.Common.{◌≡◌, take}
use Rattle.row_links.proofs.links.Links.copy.Given as goal

abbrev pub invariant-loop-family : goal.invariant-loop-family
invariant-loop-family g l = l.families.items ≡ take l.family-index l.self
