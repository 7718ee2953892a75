-- Why no reasons are given: a refusal, or want of memory.
use Rattle.tmm_model.specs.declared.point.Occ.{Occ}
use Rattle.tmm_model.specs.declared.refusal.Stop.{Stop}
use Rattle.tmm_model.specs.declared.refusal.Stop.TheVariants.{Refused, NoMemory}
use Rattle.tmm_model.specs.Maps.{TimeMap}
use Rattle.tmm_model.specs.Questions.{why_cause}
use Rattle.tmm_model.specs.Verdicts.{Tells}

-- a refusal tells the cause against the word; there may be no memory
abbrev pub StopsReasons : TimeMap → Occ → Stop → Type 0
StopsReasons m o (Refused refusal) = Tells refusal (why_cause m o o.rules.items)
StopsReasons m o NoMemory = Unit {0}
