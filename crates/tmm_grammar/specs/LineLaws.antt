-- The laws of reading and showing a line.
use Rattle.std.specs.Prelude.{◌≡◌, ℕ, ◌≤◌, List, length, ◌↔◌}
use Rattle.tmm_model.specs.declared.limits.TheConstants.{LONGEST_LINE}
use Rattle.tmm_model.specs.declared.premise.Premise.{Premise}
use Rattle.tmm_model.specs.declared.premise.Edit.TheVariants.{Add}
use Rattle.tmm_model.specs.declared.line.Line.{Line}
use Rattle.tmm_model.specs.declared.line.Line.TheVariants.{Change}
use Rattle.tmm_model.specs.declared.version.Version.{Version}
use Rattle.tmm_model.specs.Lines.{words, IsWellFormedPremise, IsOfVersion, Reads, ReadsLine, shown_text}
use Rattle.tmm_grammar.specs.LineCuts.{AreWords}
use Rattle.tmm_grammar.specs.Bare.{SameLine}

-- a line has one list of words
abbrev pub WordsAreOne : Type 0
WordsAreOne = (line : List ℕ) (ws : List (List ℕ)) → AreWords line ws ↔ (ws ≡ words line)

-- in a version words read as at most one thing
abbrev pub ReadingIsOne : Type 0
ReadingIsOne = (version : Version) (ws : List (List ℕ)) (a b : Line) → Reads version ws a → Reads version ws b → SameLine a b

-- the line that shows a premise has at most 400 bytes, and reads as the premise in each version in
-- which it is well formed
abbrev pub ShownReads : Type 0
ShownReads =
    (premise : Premise) → IsWellFormedPremise premise
    → (length (shown_text premise) ≤ LONGEST_LINE)
    × ((version : Version) → IsOfVersion version premise → ReadsLine version (shown_text premise) (Change (Add premise)))
