use Rattle.std.proofs.Common.{◌≡◌, false, take}
use Rattle.std.specs.List.{list_any}
use Rattle.repairs.specs.Told.{names_protection}
use Rattle.repairs.proofs.judging.spares_protections.Given as goal

abbrev pub invariant-loop-name : goal.invariant-loop-name
invariant-loop-name l = list_any (names_protection l.standing.present) (take l.name-index l.names) ≡ false
