-- The lines of a dump.
use Rattle.std.specs.Prelude.{ℕ, List, [], ◌∷◌}
use Rattle.tmm_model.specs.declared.premise.Premise.{Premise}
use Rattle.tmm_model.specs.Lines.{shown_text}
use Rattle.tmm_model.specs.Replies.{line_of, two}

-- the line of a standing premise
abbrev pub premise_line : Premise → List ℕ
premise_line premise = line_of two (shown_text premise ∷ [])
