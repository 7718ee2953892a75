use Rattle.std.proofs.Common.{◌⊎◌, take}
use Rattle.std.specs.Prelude.{◌↔◌, filter}
use Rattle.list_theory.proofs.Elements.{In}
use Rattle.timeline.specs.declared.row.Held.{Held}
use Rattle.timeline.specs.Holding.{goes_on}
use Rattle.timeline.proofs.holding.held_on.Given as goal

abbrev pub invariant-loop-held : goal.invariant-loop-held
invariant-loop-held l =
    (h : Held) → In h l.holding.items ↔ (In h (filter (goes_on l.standing.present l.day l.coming) l.before) ⊎ In h (take l.held-index l.coming))
