-- What a run of the program without words may leave, for each status.
use Rattle.std.specs.Prelude.{ℕ, ◌+◌, ◌<◌, ◌≤◌, ◌≡◌, ◌⊎◌, true, List, ◌++◌, All, length, take}
use Rattle.tmm_model.specs.declared.limits.TheConstants.{LONGEST_SCRIPT}
use Rattle.tmm_model.specs.declared.turn.Turn.{Turn}
use Rattle.tmm_drive.specs.declared.status.Status.{Status}
use Rattle.tmm_drive.specs.declared.status.Status.TheVariants.{Clean, SomeRefused, Words, ReadFault, WriteFault, NoMemory, TooLong, SomeMemory}
use Rattle.tmm_model.specs.Cuts.{IsLine, SplitsIntoLines, joined, ended, with_rest}
use Rattle.tmm_model.specs.Runs.{turn_text, is_reply, Run, replies}
use Rattle.tmm_drive.specs.Statuses.{status_of}

-- the most bytes that a script may have
abbrev pub limit : ℕ
limit = LONGEST_SCRIPT

module _ {S : Type 0} (step : S → ℕ → List ℕ → Turn → S → Type 0) (start : S) where
  -- the output is the replies of a run over the lines of the whole text, and the status tells of
  -- them
  pub record AnswersAll (taken output : List ℕ) (status : Status) : Type 0 where
    pub lines : List (List ℕ)
    pub rest : List ℕ
    pub turns : List Turn
    pub end : S
    pub cut : SplitsIntoLines taken lines rest
    pub run : Run step start 0 (with_rest lines rest) turns end
    pub output_is : output ≡ replies 0 turns
    pub status_is : status ≡ status_of turns

  -- the output is the replies of a run over the lines of the text that end with byte 10
  pub record AnswersEnded (taken output : List ℕ) : Type 0 where
    pub lines : List (List ℕ)
    pub rest : List ℕ
    pub turns : List Turn
    pub end : S
    pub cut : SplitsIntoLines taken lines rest
    pub run : Run step start 0 lines turns end
    pub output_is : output ≡ replies 0 turns

  -- the output is the replies of a run over the first lines of the text, and then a first part of a
  -- reply to the line after them, which ends with byte 10, or is the last of a text that is read to
  -- its end
  pub record BreaksOff (at_end : Type 0) (taken output : List ℕ) : Type 0 where
    pub lines : List (List ℕ)
    pub line : List ℕ
    pub turns : List Turn
    pub turn : Turn
    pub mid : S
    pub after : S
    pub part : ℕ
    pub each : All IsLine lines
    pub is_line : IsLine line
    pub next : ((more : List ℕ) × (taken ≡ joined lines ++ ended line ++ more))
        ⊎ ((0 < length line) × (taken ≡ joined lines ++ line) × at_end)
    pub run : Run step start 0 lines turns mid
    pub answers : step mid (length lines + 1) line turn after
    pub not_silent : is_reply turn ≡ true
    pub output_is : output ≡ replies 0 turns ++ take part (turn_text (length lines + 1) turn)

  -- at_end says that the source has no byte left, where it tells
  abbrev pub Ends : Type 0 → List ℕ → List ℕ → Status → Type 0
  Ends at_end taken output Clean = (length taken ≤ limit) × at_end × AnswersAll taken output Clean
  Ends at_end taken output SomeRefused = (length taken ≤ limit) × at_end × AnswersAll taken output SomeRefused
  Ends at_end taken output SomeMemory = (length taken ≤ limit) × at_end × AnswersAll taken output SomeMemory
  Ends at_end taken output ReadFault = (length taken ≤ limit) × AnswersEnded taken output
  Ends at_end taken output WriteFault = (length taken ≤ limit) × BreaksOff at_end taken output
  Ends at_end taken output TooLong = (length taken ≡ limit + 1) × AnswersEnded (take limit taken) output
  Ends at_end taken output Words = ⊥
  Ends at_end taken output NoMemory = ⊥
