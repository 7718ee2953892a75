-- What agents hold and what stands, told by the lines so far and their replies alone.
use Rattle.std.specs.Prelude.{ℕ, ◌+◌, Bool, true, false, cond, not, ◌&&◌, List, [], ◌∷◌, ◌++◌, drop, Option, Some, None, option_map}
use Rattle.std.specs.List.{after_last, filter_map}
use Rattle.tmm_grammar.specs.Reading.{line_of}
use Rattle.tmm_model.specs.declared.line.Line.{Line}
use Rattle.tmm_model.specs.declared.line.Line.TheVariants.{Change}
use Rattle.tmm_model.specs.declared.mode.Mode.TheVariants.{Agents as Sharing}
use Rattle.tmm_model.specs.declared.mode.ModeLine.{ModeLine}
use Rattle.tmm_model.specs.declared.mode.ModeLine.TheVariants.{Hold, Commit, Discard}
use Rattle.tmm_model.specs.declared.premise.Edit.{Edit}
use Rattle.tmm_model.specs.declared.turn.Turn.{Turn}
use Rattle.tmm_model.specs.declared.turn.Turn.TheVariants.{Silent, Reply, Memory}
use Rattle.tmm_model.specs.declared.version.Version.TheVariants.{Two}
use Rattle.tmm_model.specs.Lines.{words}
use Rattle.tmm_model.specs.Points.{same_name}
use Rattle.tmm_model.specs.Runs.{is_memory}
use Rattle.tmm_model.specs.Standing.{Standing}
use Rattle.mode_session.specs.ModeSteps.{own_line}
use Rattle.agents.specs.declared.batches.Held.{Held}
use Rattle.agents.specs.Commits.{list_after}
use Rattle.agents.specs.Worlds.{first_world}

-- a line that was answered: its number, its bytes, and its turn
pub record Answered : Type 0 where
  pub number : ℕ
  pub line : List ℕ
  pub turn : Turn

-- lines and their turns, where the first is that of line number k + 1
abbrev pub answered : ℕ → List (List ℕ) → List Turn → List Answered
answered k (line ∷ lines) (turn ∷ turns) = record { number = k + 1; line = line; turn = turn } ∷ answered (k + 1) lines turns
answered k lines turns = []

-- what an answered line says as one of an agent's; none where it has more than 400 bytes
abbrev pub said_by : Answered → Option ModeLine
said_by a = own_line Sharing a.line

-- The line has a reply that is neither a refusal nor `memory`. Of an agent's line that is `held`
-- where it says an edit, and `ok` where it is a commit.
abbrev pub is_done : Turn → Bool
is_done Silent = false
is_done (Reply bytes refused) = not refused
is_done Memory = false

-- the edit of a reading that is one
abbrev pub edit_in : Option Line → Option Edit
edit_in (Some (Change edit)) = Some edit
edit_in reading = None

-- the edit of version 2 that words say
abbrev pub edit_said : List (List ℕ) → Option Edit
edit_said ws = edit_in (line_of Two ws)

-- ---- the batch of an agent

-- the edit of a line of the agent's that is held, with the number of the line
abbrev pub held_as : List ℕ → Answered → Option ModeLine → Option Held
held_as agent a (Some (Hold whose rest)) =
    cond (same_name whose agent && is_done a.turn)
    (option_map (λ edit. record { line = a.number; edit = edit }) (edit_said (words (drop rest a.line))))
    None
held_as agent a said = None

-- a commit or a discard of the agent with another reply than `memory`
abbrev pub ends_as : List ℕ → Answered → Option ModeLine → Bool
ends_as agent a (Some (Commit whose)) = same_name whose agent && not (is_memory a.turn)
ends_as agent a (Some (Discard whose)) = same_name whose agent && not (is_memory a.turn)
ends_as agent a said = false

-- **The batch of an agent** after lines: its lines among them with the reply `held`, after the last
-- of its commits and discards whose reply is not `memory`.
abbrev pub batch_after : List Answered → List ℕ → List Held
batch_after lines agent = filter_map (λ a. held_as agent a (said_by a)) (after_last (λ a. ends_as agent a (said_by a)) lines)

-- ---- the list

-- the batch of the agent whose commit has the reply `ok`, before that line; nothing of other lines
abbrev pub made_as : List Answered → Answered → Option ModeLine → List Held
made_as before a (Some (Commit agent)) = cond (is_done a.turn) (batch_after before agent) []
made_as before a said = []

-- the batches of all such commits, one after the other, where other lines stand before these
abbrev pub made_behind : List Answered → List Answered → List Held
made_behind before [] = []
made_behind before (a ∷ lines) = made_as before a (said_by a) ++ made_behind (before ++ a ∷ []) lines

-- **The list** after lines: the empty list of version 2, changed by the edits of the batches of all
-- commits with the reply `ok`, one batch after the other in the order of the commits.
abbrev pub list_of : List Answered → Standing
list_of lines = list_after first_world.list (made_behind [] lines)
