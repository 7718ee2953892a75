-- The reply to a line is one text, but for want of memory and the choice among walks.
use Rattle.std.specs.Prelude.{◌≡◌, ℕ, Bool, true, false, List}
use Rattle.tmm_model.specs.declared.refusal.Refusal.TheVariants.{Cycle}
use Rattle.tmm_model.specs.Replies.{Reply, Refused, PathIs, Reasons, text_of}
use Rattle.tmm_model.specs.Standing.{Standing}
use Rattle.tmm_model.specs.Transcript.{LineAnswers}

-- whether a walk is shown, of which there may be several
abbrev pub shows_walk : Reply → Bool
shows_walk (PathIs far steps) = true
shows_walk (Reasons lines) = true
shows_walk (Refused (Cycle sum steps)) = true
shows_walk reply = false

-- two replies that a line may have from one list have the same bytes, or show a walk
abbrev pub TextsAreOne : Type 0
TextsAreOne =
    (old new other : Standing) (line : List ℕ) (a b : Reply)
    → LineAnswers old line a new → LineAnswers old line b other → shows_walk a ≡ false → (k : ℕ) → text_of k a ≡ text_of k b
