-- The turn of a line of the mode's own that is refused.
use Rattle.std.specs.Prelude.{◌≡◌, ℕ, true}
use Rattle.tmm_model.specs.declared.mode.ModeCause.{ModeCause}
use Rattle.tmm_model.specs.declared.turn.Turn.{Turn}
use Rattle.tmm_model.specs.declared.turn.Turn.TheVariants.{Silent, Reply, Memory}
use Rattle.tmm_model.specs.Modes.{own_no}

-- the line of number k is refused for this cause, or there was no memory to say so
abbrev pub IsRefused : ℕ → ModeCause → Turn → Type 0
IsRefused k cause Silent = ⊥
IsRefused k cause Memory = Unit {0}
IsRefused k cause (Reply bytes refused) = (bytes.items ≡ own_no k cause) × (refused ≡ true)
