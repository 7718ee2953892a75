-- Replies about the edits of an agent: that one is held, that all were made, that none was.
use Rattle.std.specs.Prelude.{ℕ, List, [], ◌∷◌, ◌++◌, codes, decimal, length}
use Rattle.std.specs.List.{flat_map}
use Rattle.tmm_model.specs.declared.changes.Taken.{Taken}
use Rattle.tmm_model.specs.declared.refusal.Refusal.{Refusal}
use Rattle.tmm_model.specs.declared.refusal.Refusal.TheVariants.{Cycle}
use Rattle.tmm_model.specs.Replies.{line_of, head_line, two, four, step_lines, change_lines, refusal_words}

-- the reply that an edit is held, and how many are now held for its agent
abbrev pub held_text : ℕ → ℕ → List ℕ
held_text k count = head_line k (codes "held" ∷ decimal count ∷ [])

-- an edit that was made: the line that held it, and what it changed
abbrev pub taken_lines : Taken → List ℕ
taken_lines taken = line_of two (codes "line" ∷ decimal taken.line ∷ []) ++ change_lines taken.changes

-- the reply that all held edits were made: how many, and each of them
abbrev pub batch_text : ℕ → List Taken → List ℕ
batch_text k all = head_line k (codes "ok" ∷ decimal (length all) ∷ []) ++ flat_map taken_lines all

-- a cycle's steps stand behind the cause
abbrev pub cause_steps : Refusal → List ℕ
cause_steps (Cycle _ steps) = step_lines four steps.items
cause_steps _ = []

-- why an edit is refused, on a line of its own
abbrev pub cause_lines : Refusal → List ℕ
cause_lines refusal = line_of two (refusal_words refusal) ++ cause_steps refusal

-- the reply that none was made: the line that held the first that is refused, and why it is
abbrev pub no_batch_text : ℕ → ℕ → Refusal → List ℕ
no_batch_text k held refusal = head_line k (codes "no" ∷ codes "batch" ∷ decimal held ∷ []) ++ cause_lines refusal
