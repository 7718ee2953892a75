-- Lines of more than 400 bytes are answered alike, with agents too.
use Rattle.std.specs.Prelude.{ℕ, ◌<◌, List, length}
use Rattle.std.proofs.Common.{arith}
use Rattle.tmm_model.specs.declared.turn.Turn.{Turn}
use Rattle.tmm_session.specs.LongLines.{Step-long}
use Rattle.agents.specs.Worlds.{World}
use Rattle.agents.specs.Sharing.{SharingOther, for_change, for_other}

pub SharingOther-long : (old new : World) (k : ℕ) (a b : List ℕ) (turn : Turn) → 400 < length a → 400 < length b → SharingOther old k a turn new → SharingOther old k b turn new
SharingOther-long old new k a b turn long_a long_b answers = elim answers [
  | for_change edit read refused same ↦ absurd (omega (arith, read.short))
  | for_other none step same ↦ for_other (λ edit read. omega (arith, read.short)) (Step-long old.list old.list k a b turn long_a long_b step) same
]
