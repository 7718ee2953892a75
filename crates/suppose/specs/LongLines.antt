-- Lines of more than 400 bytes are answered alike on the map on top too.
use Rattle.std.specs.Prelude.{ℕ, ◌<◌, List, length}
use Rattle.tmm_model.specs.declared.turn.Turn.{Turn}
use Rattle.tmm_session.specs.LongLines.{Step-long}
use Rattle.suppose.specs.Worlds.{World, TopStep}

pub TopStep-long : (old new : World) (k : ℕ) (a b : List ℕ) (turn : Turn) → 400 < length a → 400 < length b → TopStep old k a turn new → TopStep old k b turn new
TopStep-long old new k a b turn long_a long_b step = (Step-long old.top new.top k a b turn long_a long_b step.0, step.1)
