-- Answers that tell a cause.
use Rattle.std.specs.Prelude.{◌≡◌, Result, MatchResult, Option, None}
use Rattle.tmm_model.specs.declared.point.PointName.TheVariants.{Start}
use Rattle.tmm_model.specs.declared.point.QueryPoint.{QueryPoint}
use Rattle.tmm_model.specs.declared.point.QueryPoint.TheVariants.{Declared}
use Rattle.tmm_model.specs.declared.refusal.Refusal.{Refusal}
use Rattle.tmm_model.specs.declared.refusal.Refusal.TheVariants.{Taken, Unknown, Sort as IllSorted}
use Rattle.tmm_model.specs.Verdicts.{Cause, Tells}

-- The point begins or ends what has a name: neither `start` nor a derived occurrence, which may
-- have the same bytes as a word.
abbrev pub IsOfName : QueryPoint → Type 0
IsOfName (Declared Start) = ⊥
IsOfName (Declared _) = Unit {0}
IsOfName _ = ⊥

-- a refused word is told as the point of a name
abbrev pub NamesPlainly : Refusal → Type 0
NamesPlainly (Taken point) = IsOfName point
NamesPlainly (Unknown point) = IsOfName point
NamesPlainly (IllSorted point) = IsOfName point
NamesPlainly _ = Unit {0}

-- the answer tells the cause, and is Ok exactly where there is none; it names a word as the point
-- of a name
abbrev pub Judges : Result (Unit {0}) Refusal → Option Cause → Type 0
Judges result cause = MatchResult result (λ _. cause ≡ None) (λ refusal. Tells refusal cause × NamesPlainly refusal)
