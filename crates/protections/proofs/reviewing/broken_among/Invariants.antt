use Rattle.std.proofs.Common.{◌≡◌, take, filter, is_some}
use Rattle.protections.specs.Found.{found_in}
use Rattle.protections.proofs.reviewing.broken_among.Given as goal

abbrev pub invariant-loop-name : goal.invariant-loop-name
invariant-loop-name l = l.found.items ≡ filter (λ name. is_some (found_in l.old name)) (take l.name-index l.names)
