-- When nothing is pending.
use Rattle.std.proofs.Common.{◌≡◌, Option, Some, None, refl}
use Rattle.std.specs.Option.{option_map}
use Rattle.tmm_model.specs.Standing.{Standing}
use Rattle.plain_map.specs.declared.beliefs.Beliefs.{Beliefs}

-- no list is pending where no beliefs are
pub none_pending : (present : Standing) (next : Option Beliefs) → option_map (λ _. present) next ≡ None → next ≡ None
none_pending present None none = refl
none_pending present (Some b) none = absurd (cc (none))
