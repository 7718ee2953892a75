-- Each line has an answer besides want of memory.
use Rattle.std.specs.Prelude.{◌≡◌, ℕ, false, List}
use Rattle.std.specs.List.{list_any}
use Rattle.tmm_model.specs.declared.turn.Turn.{Turn}
use Rattle.tmm_model.specs.Runs.{Run, is_memory}
use Rattle.tmm_model.specs.Standing.{Standing, empty_list}
use Rattle.tmm_model.specs.Transcript.{Step}
use Rattle.belief_theory.specs.KeptLists.{IsKept}

-- **From a list that is kept, each line has a turn that is no want of memory**, and a list that it
-- leaves.
abbrev pub LinesAreAnswered : Type 0
LinesAreAnswered = (old : Standing) → IsKept old → (k : ℕ) (line : List ℕ) → (turn : Turn) × (new : Standing) × Step old k line turn new × (is_memory turn ≡ false)

-- so all lines of a script have, one after the other, from the empty list on
abbrev pub ScriptsAreAnswered : Type 0
ScriptsAreAnswered = (lines : List (List ℕ)) → (turns : List Turn) × (end : Standing) × Run Step empty_list 0 lines turns end × (list_any is_memory turns ≡ false)
