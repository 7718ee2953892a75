-- What a line is answered.
use Rattle.std.specs.Prelude.{◌≡◌, ℕ, List, Option, Some, None, Result, Ok, Err}
use Rattle.tmm_model.specs.declared.line.Line.{Line}
use Rattle.tmm_model.specs.declared.refusal.Refusal.TheVariants.{Form}
use Rattle.tmm_model.specs.declared.refusal.Stop.{Stop}
use Rattle.tmm_model.specs.declared.refusal.Stop.TheVariants.{Refused, NoMemory}
use Rattle.tmm_model.specs.declared.version.Version.{Version}
use Rattle.tmm_model.specs.Lines.{ReadsLine}
use Rattle.tmm_grammar.specs.Bare.{bare_line}
use Rattle.tmm_script.specs.declared.fields.Misread.{Misread}
use Rattle.tmm_script.specs.declared.fields.Misread.TheVariants as misreads

-- In the version the line reads as the answer. It is in no form where it reads as nothing, and no
-- other refusal is answered.
abbrev pub IsReadingOf : Version → List ℕ → Result Line Stop → Type 0
IsReadingOf version line (Ok l) = ReadsLine version line l
IsReadingOf version line (Err (Refused Form)) = (l : Line) → ReadsLine version line l → ⊥
IsReadingOf version line (Err (Refused _)) = ⊥
IsReadingOf version line (Err NoMemory) = Unit {0}

-- What is read is the answer, but for signs of memory. It is in no form where nothing is read, and
-- no other refusal is answered.
abbrev pub IsRead : Result Line Stop → Option Line → Type 0
IsRead (Ok l) read = read ≡ Some (bare_line l)
IsRead (Err (Refused Form)) read = read ≡ None
IsRead (Err (Refused _)) read = ⊥
IsRead (Err NoMemory) read = Unit {0}

-- what a function returned, seen by view, is what reading gives, unless memory ran out
abbrev pub Gives : {X Y : Type 0} → (X → Y) → Result X Misread → Option Y → Type 0
Gives view (Ok x) read = read ≡ Some (view x)
Gives view (Err misreads.Form) read = read ≡ None
Gives view (Err misreads.Memory) read = Unit {0}

-- where memory ran out, this holds
abbrev pub OnMemory : {X : Type 0} → Result X Misread → Type 0 → Type 0
OnMemory (Ok x) HasOccurrences = Unit {0}
OnMemory (Err misreads.Form) HasOccurrences = Unit {0}
OnMemory (Err misreads.Memory) HasOccurrences = HasOccurrences
