-- A dump, run again as a script.
use Rattle.std.specs.Prelude.{◌≡◌, ℕ, false, List, [], ◌∷◌, ◌++◌, map, length, decimal, codes}
use Rattle.std.specs.List.{list_any}
use Rattle.tmm_model.specs.declared.turn.Turn.{Turn}
use Rattle.tmm_model.specs.Cuts.{joined}
use Rattle.tmm_laws.specs.EditLaws.{GrowsSmall, dump_edits, dumped_line}
use Rattle.belief_theory.specs.KeptLists.{IsKept}
use Rattle.tmm_model.specs.Lines.{shown_text}
use Rattle.tmm_model.specs.Replies.{DumpIs, head_line, text_of}
use Rattle.tmm_model.specs.Runs.{Run, is_refused, is_memory}
use Rattle.tmm_model.specs.Standing.{Standing, empty_list}
use Rattle.tmm_model.specs.Transcript.{Step}

-- the lines that a dump shows behind its first
abbrev pub dumped_lines : Standing → List (List ℕ)
dumped_lines s = map dumped_line (dump_edits s)

-- what a dump is answered is its first line, and then these
abbrev pub DumpsTell : Type 0
DumpsTell =
    (k : ℕ) (s : Standing)
    → text_of k (DumpIs s.version s.horizon (map shown_text s.premises)) ≡ head_line k (codes "dump" ∷ decimal (length s.premises) ∷ []) ++ joined (dumped_lines s)

-- these lines, run from the empty list on, are all accepted, want of memory aside, and leave the
-- list
abbrev pub DumpsRun : Type 0
DumpsRun =
    (s : Standing) → IsKept s → GrowsSmall s
    → (k : ℕ) (turns : List Turn) (end : Standing) → Run Step empty_list k (dumped_lines s) turns end → list_any is_memory turns ≡ false
    → (end ≡ s) × (list_any is_refused turns ≡ false)

-- from one list a line leaves one list, want of memory aside
abbrev pub StepsLeaveOne : Type 0
StepsLeaveOne =
    (old : Standing) (k : ℕ) (line : List ℕ) (a b : Turn) (new other : Standing)
    → Step old k line a new → Step old k line b other → is_memory a ≡ false → is_memory b ≡ false → new ≡ other
