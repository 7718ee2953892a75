-- Where the reading of a script stands between two bytes.
use Rattle.std.specs.Prelude.{ℕ, ◌+◌, ◌≡◌, true, ◌||◌, List, ◌++◌, Result, OnErr, length, take}
use Rattle.std.specs.declared.option.Option.{Option}
use Rattle.std.specs.List.{list_any}
use Rattle.std.specs.Io.KnownBytes.{Appends}
use Rattle.tmm_io.specs.Ends.{WritesAll}
use Rattle.tmm_model.specs.declared.turn.Turn.{Turn}
use Rattle.tmm_drive.specs.declared.tally.Tally.{Tally}
use Rattle.tmm_model.specs.Cuts.{SplitsIntoLines}
use Rattle.tmm_drive.specs.Endings.{BreaksOff}
use Rattle.tmm_model.specs.Runs.{turn_text, is_reply, is_refused, is_memory, Run, replies}

-- how much of a line is kept
abbrev pub most_kept : ℕ
most_kept = 401

-- one more turn
abbrev pub counted : Tally → Turn → Tally
counted tally turn = record {
  lines = tally.lines + 1;
  refused = tally.refused || is_refused turn;
  memory = tally.memory || is_memory turn;
}

module _ {S : Type 0} (step : S → ℕ → List ℕ → Turn → S → Type 0) where
  -- a line is answered, and its reply is written
  pub record AnswersLine {E : Type 0} (old : S) (line : List ℕ) (new : S) (before after : Tally)
      (held holds : Option (List ℕ)) (result : Result (Unit {0}) E) : Type 0 where
    pub turn : Turn
    pub answers : step old (before.lines + 1) line turn new
    pub counted_is : after ≡ counted before turn
    pub writes : WritesAll held holds result (turn_text (before.lines + 1) turn)
    pub silent_is_ok : OnErr result (is_reply turn ≡ true)

  -- Of the bytes taken so far, the ended lines are answered by this output, and of the rest the
  -- first bytes are kept.
  pub record ReadSoFar (start : S) (taken output : List ℕ) (now : S) (kept : List ℕ) (tally : Tally) : Type 0 where
    pub lines : List (List ℕ)
    pub rest : List ℕ
    pub turns : List Turn
    pub cut : SplitsIntoLines taken lines rest
    pub run : Run step start 0 lines turns now
    pub output_is : output ≡ replies 0 turns
    pub lines_is : tally.lines ≡ length lines
    pub kept_is : kept ≡ take most_kept rest
    pub refused_is : tally.refused ≡ list_any is_refused turns
    pub memory_is : tally.memory ≡ list_any is_memory turns

  -- after more bytes
  abbrev pub GoesOn : S → List ℕ → List ℕ → Option (List ℕ) → Option (List ℕ) → S → List ℕ → Tally → Type 0
  GoesOn start taken output held holds now kept tally =
      (more : List ℕ) × Appends held holds more × ReadSoFar start taken (output ++ more) now kept tally

  -- after more bytes, a write failed in the reply to a line that was ended by one of them
  abbrev pub GivesUp : S → Type 0 → List ℕ → List ℕ → Option (List ℕ) → Option (List ℕ) → Type 0
  GivesUp start at_end taken output held holds =
      (more : List ℕ) × Appends held holds more × BreaksOff step start at_end taken (output ++ more)
