-- What the words `demo N` may leave.
use Rattle.std.specs.Prelude.{ℕ, ◌+◌, ◌≤◌, ◌≡◌, true, List, [], ◌∷◌, All, Option, codes, decimal, take}
use Rattle.std.specs.String.{string_bytes}
use Rattle.std.specs.declared.alloc.Global.{Global}
use Rattle.std.specs.declared.string.String.{String}
use Rattle.tmm_model.specs.declared.limits.TheConstants.{MOST_EVENTS}
use Rattle.tmm_model.specs.declared.turn.Turn.{Turn}
use Rattle.tmm_model.specs.Generator.{script_of, summary}
use Rattle.tmm_model.specs.Replies.{Reply}
use Rattle.tmm_model.specs.Runs.{Run, is_reply}
use Rattle.tmm_model.specs.Standing.{Standing}
use Rattle.tmm_model.specs.Transcript.{Step}
use Rattle.tmm_drive.specs.declared.status.Status.{Status}
use Rattle.tmm_drive.specs.declared.status.Status.TheVariants.{Clean, SomeRefused, WriteFault, SomeMemory}
use Rattle.tmm_drive.specs.Statuses.{status_of}
use Rattle.tmm_session.specs.Sessions.{reply_told}

-- the words are `demo`, and n in decimal
abbrev pub IsDemo : List (String Global) → ℕ → Type 0
IsDemo (first ∷ second ∷ []) n = (string_bytes first ≡ codes "demo") × (string_bytes second ≡ decimal n) × (1 ≤ n) × (n ≤ MOST_EVENTS)
IsDemo words n = ⊥

-- the replies that a run tells, line by line; none is want of memory
abbrev pub replies_told : (old : Standing) (k : ℕ) (lines : List (List ℕ)) (turns : List Turn) (new : Standing) → Run Step old k lines turns new → List (Option Reply)
replies_told old k (line ∷ lines) (turn ∷ turns) new run =
    reply_told old (k + 1) line turn run.0 run.1 ∷ replies_told run.0 (k + 1) lines turns new run.2
replies_told old k lines turns new run = []

-- a run of a script, in which each line has a reply, with what these are
pub record RunReplied (start : Standing) (lines : List (List ℕ)) (turns : List Turn) (replies : List (Option Reply)) (end : Standing) : Type 0 where
  pub run : Run Step start 0 lines turns end
  pub each : All (λ turn. is_reply turn ≡ true) turns
  pub replies_are : replies ≡ replies_told start 0 lines turns end run

module _ (start : Standing) (n : ℕ) where
  -- the line is the summary of the replies in a run of the script, and the status tells of the same
  -- run
  pub record Summarizes (line : List ℕ) (status : Status) : Type 0 where
    pub turns : List Turn
    pub replies : List (Option Reply)
    pub end : Standing
    pub replied : RunReplied start (script_of n) turns replies end
    pub line_is : line ≡ summary n replies
    pub status_is : status ≡ status_of turns

  -- the summary, or for a write fault a first part of one
  abbrev pub DemoEnds : List ℕ → Status → Type 0
  DemoEnds output Clean = Summarizes output Clean
  DemoEnds output SomeRefused = Summarizes output SomeRefused
  DemoEnds output SomeMemory = Summarizes output SomeMemory
  DemoEnds output WriteFault = (line : List ℕ) × (status : Status) × (part : ℕ) × Summarizes line status × (output ≡ take part line)
  DemoEnds output status = ⊥
