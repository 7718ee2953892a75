-- What the lines of several agents come to, in whichever order they come.
use Rattle.std.specs.Prelude.{◌≡◌, ◌≢◌, ℕ, ◌≤◌, Bool, false, true, cond, All, List, [], filter, length, Option, Some, None}
use Rattle.tmm_model.specs.declared.mode.Mode.TheVariants.{Agents as Sharing}
use Rattle.tmm_model.specs.declared.mode.ModeCause.TheVariants.{LimitBatch, LimitAgents}
use Rattle.tmm_model.specs.declared.mode.ModeLine.{ModeLine}
use Rattle.tmm_model.specs.declared.mode.ModeLine.TheVariants.{Hold, Commit, Discard}
use Rattle.tmm_model.specs.declared.turn.Turn.{Turn}
use Rattle.tmm_model.specs.Modes.{own_no}
use Rattle.tmm_model.specs.Points.{same_name}
use Rattle.tmm_model.specs.Runs.{Run, turn_text, is_memory}
use Rattle.mode_session.specs.ModeSteps.{own_line}
use Rattle.agents.specs.Batches.{held_by}
use Rattle.agents.specs.Histories.{Answered, answered, batch_after, list_of}
use Rattle.agents.specs.Sharing.{SharingStep}
use Rattle.agents.specs.Worlds.{World, first_world}

-- ---- the world by lines and replies

-- The world is the one that these lines and their replies tell: the list, and of each agent the
-- batch. Each batch that it keeps has an edit, and no agent has two.
pub record IsWorldAfter (lines : List Answered) (w : World) : Type 0 where
  pub list : w.list ≡ list_of lines
  pub batches : (agent : List ℕ) → held_by w.batches agent ≡ batch_after lines agent
  pub some : All (λ batch. batch.edits ≢ []) w.batches
  pub once : (agent : List ℕ) → length (filter (λ batch. same_name batch.agent agent) w.batches) ≤ 1

-- **A script's lines and replies tell its world.**
abbrev pub LinesTellTheWorld : Type 0
LinesTellTheWorld =
    (lines : List (List ℕ)) (turns : List Turn) (w : World)
    → Run SharingStep first_world 0 lines turns w
    → IsWorldAfter (answered 0 lines turns) w

-- ---- the order of the agents' lines

-- a step without want of memory in which no edit is refused for a limit on what is held
abbrev pub UnlimitedStep : World → ℕ → List ℕ → Turn → World → Type 0
UnlimitedStep old k line turn new =
    SharingStep old k line turn new × (is_memory turn ≡ false) × (turn_text k turn ≢ own_no k LimitBatch) × (turn_text k turn ≢ own_no k LimitAgents)

-- what is said is a commit
abbrev pub says_commit : Option ModeLine → Bool
says_commit (Some (Commit agent)) = true
says_commit said = false

-- a line that is a commit
abbrev pub is_commit : List ℕ → Bool
is_commit line = says_commit (own_line Sharing line)

-- what is said is the agent's
abbrev pub says_as : List ℕ → Option ModeLine → Bool
says_as agent (Some (Hold whose rest)) = same_name whose agent
says_as agent (Some (Commit whose)) = same_name whose agent
says_as agent (Some (Discard whose)) = same_name whose agent
says_as agent said = false

-- a line of at most 400 bytes that is the agent's
abbrev pub is_line_of : List ℕ → List ℕ → Bool
is_line_of agent line = says_as agent (own_line Sharing line)

-- **The order of lines of different agents does not matter, but for that of the commits.** Two
-- scripts without want of memory and without a refusal for a limit on what is held, with the same
-- commits in the same order and of each agent the same lines in the same order, end with the same
-- list.
abbrev pub OrderOfCommitsDecides : Type 0
OrderOfCommitsDecides =
    (one other : List (List ℕ)) (ones others : List Turn) (w v : World)
    → Run UnlimitedStep first_world 0 one ones w
    → Run UnlimitedStep first_world 0 other others v
    → filter is_commit one ≡ filter is_commit other
    → ((agent : List ℕ) → filter (is_line_of agent) one ≡ filter (is_line_of agent) other)
    → w.list ≡ v.list
