-- What holds between the lines of a script that asks for repairs, and what a line is told.
use Rattle.std.specs.Prelude.{◌≡◌, ℕ, Bool, List, Option, None}
use Rattle.std.specs.List.{All}
use Rattle.tmm_model.specs.declared.turn.Turn.{Turn}
use Rattle.tmm_model.specs.declared.turn.Turn.TheVariants.{Silent, Reply, Memory}
use Rattle.tmm_model.specs.Lines.{IsWellFormedPremise}
use Rattle.tmm_model.specs.Standing.{Standing}

-- the premises of the list are well formed, and no edit is pending
pub record IsReady (s : Standing) (pending : Option Standing) : Type 0 where
  pub well_formed : All IsWellFormedPremise s.premises
  pub idle : pending ≡ None

-- these bytes, refusing the line or not, or there was no memory for them
abbrev pub IsTold : List ℕ → Bool → Turn → Type 0
IsTold text refusing Silent = ⊥
IsTold text refusing Memory = Unit {0}
IsTold text refusing (Reply bytes refused) = (bytes.items ≡ text) × (refused ≡ refusing)
