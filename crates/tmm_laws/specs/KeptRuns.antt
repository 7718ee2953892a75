-- What the lists of a run have in common.
use Rattle.std.specs.Prelude.{ℕ, List}
use Rattle.tmm_model.specs.declared.turn.Turn.{Turn}
use Rattle.belief_theory.specs.KeptLists.{IsKept}
use Rattle.tmm_model.specs.Runs.{Run}
use Rattle.tmm_model.specs.Standing.{Standing, empty_list}
use Rattle.tmm_model.specs.Transcript.{Step}

-- each list that a run leaves, over whatever lines and with whatever turns, is kept if the run
-- began with the empty list
abbrev pub RunsKeepLists : Type 0
RunsKeepLists = (lines : List (List ℕ)) (turns : List Turn) (end : Standing) → Run Step empty_list 0 lines turns end → IsKept end
