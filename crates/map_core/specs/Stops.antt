-- Why a call of a map gives no answer: a refusal, or want of memory.
use Rattle.std.specs.Prelude.{◌⊎◌, Option, Some, None, IsSome}
use Rattle.tmm_model.specs.declared.line.Query.{Query}
use Rattle.tmm_model.specs.declared.line.Query.TheVariants.{Bounds, Path, Ask, Why}
use Rattle.tmm_model.specs.declared.point.PointName.TheVariants.{Begin}
use Rattle.tmm_model.specs.declared.point.QueryPoint.{QueryPoint}
use Rattle.tmm_model.specs.declared.point.QueryPoint.TheVariants.{Declared, Derived}
use Rattle.tmm_model.specs.declared.premise.Edit.{Edit}
use Rattle.tmm_model.specs.declared.refusal.Refusal.{Refusal}
use Rattle.tmm_model.specs.declared.refusal.Stop.{Stop}
use Rattle.tmm_model.specs.declared.refusal.Stop.TheVariants.{Refused, NoMemory}
use Rattle.tmm_model.specs.Maps.{TimeMap, built}
use Rattle.tmm_model.specs.Questions.{derived_cause, point_cause, query_cause}
use Rattle.tmm_model.specs.Sorts.{is_fact, sort_in}
use Rattle.tmm_model.specs.Standing.{Standing}
use Rattle.tmm_model.specs.Transcript.{RefusesEdit}
use Rattle.tmm_model.specs.Verdicts.{Cause, Tells, name_cause}
use Rattle.premise_list.specs.Judged.{NamesPlainly}
use Rattle.map_core.specs.Naming.{Names, point_of}

-- why an edit is not made: a refusal has its cause, and there may be no memory
abbrev pub StopsEdit : Standing → Edit → Stop → Type 0
StopsEdit list edit (Refused refusal) = RefusesEdit list edit refusal
StopsEdit list edit NoMemory = Unit {0}

-- a refusal of an edit names a word as the point of a name
abbrev pub NamesEdited : Stop → Type 0
NamesEdited (Refused refusal) = NamesPlainly refusal
NamesEdited NoMemory = Unit {0}

-- the point is a derived occurrence that is not believed, whose word is told
abbrev pub IsUnbelieved : TimeMap → QueryPoint → Type 0
IsUnbelieved m (Declared p) = ⊥
IsUnbelieved m (Derived o) = IsSome (derived_cause m o)

-- The question may want memory: for its answer, or, where that is a pair of bounds, for the word of
-- a derived occurrence that is not believed alone.
abbrev pub WantsMemory : TimeMap → Query → Type 0
WantsMemory m (Bounds p q) = IsUnbelieved m p ⊎ IsUnbelieved m q
WantsMemory m _ = Unit {0}

-- why a question is not answered: a refusal tells its cause, and only some questions want memory
abbrev pub StopsQuery : Standing → Query → Stop → Type 0
StopsQuery list query (Refused refusal) = Tells refusal (query_cause (built list) query)
StopsQuery list query NoMemory = WantsMemory (built list) query

-- ---- how a refusal names the word that is refused

-- where the first of two words has this cause or none, a refusal names the first, and else the
-- second
abbrev pub NamesFirst : Option Cause → (Refusal → Type 0) → (Refusal → Type 0) → Refusal → Type 0
NamesFirst (Some cause) NamesOne NamesOther refusal = NamesOne refusal
NamesFirst None NamesOne NamesOther refusal = NamesOther refusal

-- of two points, the first with a cause against it
abbrev pub NamesOneOf : TimeMap → QueryPoint → QueryPoint → Refusal → Type 0
NamesOneOf m p q = NamesFirst (point_cause m p) (Names p) (Names q)

-- A refusal of a question names the first word with a cause against it as this very point: a point
-- as the question has it, a fact as the begin of its name, and an occurrence without a rule as the
-- begin of its root.
abbrev pub NamesWord : TimeMap → Query → Refusal → Type 0
NamesWord m (Bounds p q) = NamesOneOf m p q
NamesWord m (Path p q) = NamesOneOf m p q
NamesWord m (Ask fact p q) = NamesFirst (name_cause (sort_in m.list.premises fact) fact is_fact) (Names (Declared (Begin fact))) (NamesOneOf m p q)
NamesWord m (Why o) = Names (point_of o o.rules.items)
NamesWord m _ = λ _. Unit {0}

-- a question is not answered: a refusal names its word so
abbrev pub NamesRefused : Standing → Query → Stop → Type 0
NamesRefused list query (Refused refusal) = NamesWord (built list) query refusal
NamesRefused list query NoMemory = Unit {0}
