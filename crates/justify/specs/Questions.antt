-- Why one of two points of a question is refused.
use Rattle.std.specs.Prelude.{◌⊎◌, Option}
use Rattle.std.specs.Option.{option_or}
use Rattle.tmm_model.specs.declared.point.QueryPoint.{QueryPoint}
use Rattle.tmm_model.specs.declared.refusal.Stop.{Stop}
use Rattle.tmm_model.specs.declared.refusal.Stop.TheVariants.{Refused, NoMemory}
use Rattle.tmm_model.specs.Maps.{TimeMap}
use Rattle.tmm_model.specs.Questions.{point_cause}
use Rattle.tmm_model.specs.Verdicts.{Cause, Tells}
use Rattle.map_core.specs.Stops.{IsUnbelieved, NamesOneOf}

-- the first cause of two points, from the left
abbrev pub points_cause : TimeMap → QueryPoint → QueryPoint → Option Cause
points_cause m p q = option_or (point_cause m p) (point_cause m q)

-- a refusal tells that cause; memory is wanting only for the word of an occurrence that is not
-- believed
abbrev pub StopsPoints : TimeMap → QueryPoint → QueryPoint → Stop → Type 0
StopsPoints m p q (Refused refusal) = Tells refusal (points_cause m p q)
StopsPoints m p q NoMemory = IsUnbelieved m p ⊎ IsUnbelieved m q

-- a refusal names the first of the points that has a cause
abbrev pub NamesPoints : TimeMap → QueryPoint → QueryPoint → Stop → Type 0
NamesPoints m p q (Refused refusal) = NamesOneOf m p q refusal
NamesPoints m p q NoMemory = Unit {0}
