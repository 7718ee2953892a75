use Rattle.std.proofs.Common.{ℕ, take}
use Rattle.row_links.specs.Lists.{IsOn}
use Rattle.belief_net.specs.Adding.{IsEventOf}
use Rattle.belief_net.proofs.ruling.has_event.Given as goal

abbrev pub invariant-loop-x : goal.invariant-loop-x
invariant-loop-x l = (x : ℕ) → IsOn (take l.x-index l.numbers) x → IsEventOf l.tree l.kind x → ⊥
