-- Why repairs are not told: a refusal, or want of memory.
use Rattle.std.specs.Prelude.{ℕ, List}
use Rattle.tmm_model.specs.declared.refusal.Stop.{Stop}
use Rattle.tmm_model.specs.declared.refusal.Stop.TheVariants.{Refused, NoMemory}
use Rattle.tmm_model.specs.Sorts.{sort_in}
use Rattle.tmm_model.specs.Standing.{Standing}
use Rattle.tmm_model.specs.Verdicts.{Tells, name_cause}
use Rattle.premise_list.specs.Judged.{NamesPlainly}
use Rattle.repairs.specs.Repairs.{is_protection}

-- a refusal tells the cause against the name, for which a protection is wanted
abbrev pub StopsRepairs : Standing → List ℕ → Stop → Type 0
StopsRepairs s name (Refused refusal) = Tells refusal (name_cause (sort_in s.premises name) name is_protection)
StopsRepairs s name NoMemory = Unit {0}

-- it names the word as the point of a name
abbrev pub NamesRepairs : Stop → Type 0
NamesRepairs (Refused refusal) = NamesPlainly refusal
NamesRepairs NoMemory = Unit {0}
