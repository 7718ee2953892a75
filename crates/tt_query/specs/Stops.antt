-- Why a point that a question names has no spot: a refusal, or want of memory for the refused word.
use Rattle.std.specs.Prelude.{◌≡◌, ℕ, List, [], ◌∷◌, Option, Some, None, IsSome}
use Rattle.tmm_model.specs.declared.point.Occ.{Occ}
use Rattle.tmm_model.specs.declared.point.QueryPoint.{QueryPoint}
use Rattle.tmm_model.specs.declared.point.QueryPoint.TheVariants.{Declared, Derived}
use Rattle.tmm_model.specs.declared.refusal.Stop.{Stop}
use Rattle.tmm_model.specs.declared.refusal.Stop.TheVariants.{Refused, NoMemory}
use Rattle.tmm_model.specs.Maps.{TimeMap}
use Rattle.tmm_model.specs.Points.{occ_word}
use Rattle.tmm_model.specs.Questions.{point_cause, derived_cause, why_cause}
use Rattle.tmm_model.specs.Verdicts.{Cause, Tells, unknown, ill_sorted}
use Rattle.map_core.specs.Naming.{Names}

-- only the word of a derived occurrence that is not believed asks for memory
abbrev pub StopsPoint : TimeMap → QueryPoint → Stop → Type 0
StopsPoint m point (Refused refusal) = Tells refusal (point_cause m point)
StopsPoint m (Declared p) NoMemory = ⊥
StopsPoint m (Derived o) NoMemory = IsSome (derived_cause m o)

-- the same where reasons of an occurrence with these rules are asked for
abbrev pub StopsFor : TimeMap → Occ → List (List ℕ) → Stop → Type 0
StopsFor m o rules (Refused refusal) = Tells refusal (why_cause m o rules)
StopsFor m o [] NoMemory = ⊥
StopsFor m o (r ∷ rules) NoMemory = IsSome (derived_cause m o)

-- the same where reasons are asked for
abbrev pub StopsWhy : TimeMap → Occ → Stop → Type 0
StopsWhy m o stop = StopsFor m o o.rules.items stop

-- the occurrence is told to be unknown, or there is no memory for its word
abbrev pub StopsUnknown : Occ → Stop → Type 0
StopsUnknown o (Refused refusal) = Tells refusal (Some (unknown (occ_word o)))
StopsUnknown o NoMemory = Unit {0}

-- ---- how a refusal names what is refused

-- a refusal names the point as the question does
abbrev pub NamesPoint : QueryPoint → Stop → Type 0
NamesPoint point (Refused refusal) = Names point refusal
NamesPoint point NoMemory = Unit {0}

-- the cause, where there is one, is that this word is unknown or of another sort
abbrev pub IsOfWord : List ℕ → Option Cause → Type 0
IsOfWord text None = Unit {0}
IsOfWord text (Some (unknown told)) = told ≡ text
IsOfWord text (Some (ill_sorted told)) = told ≡ text
IsOfWord text (Some _) = ⊥
