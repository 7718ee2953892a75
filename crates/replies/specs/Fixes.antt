-- The reply that lists small changes.
use Rattle.std.specs.Prelude.{ℕ, List, [], ◌∷◌, ◌++◌, length, codes, decimal}
use Rattle.std.specs.Fmt.{signed_decimal}
use Rattle.std.specs.List.{flat_map}
use Rattle.tmm_model.specs.declared.fix.Fix.{Fix}
use Rattle.tmm_model.specs.declared.fix.Fix.TheVariants.{Add, Erase, LoosenLo, LoosenHi}
use Rattle.tmm_model.specs.Points.{point_word}
use Rattle.tmm_model.specs.Replies.{head_line, line_of, two}

-- a change in words: the points and the lower bound of the constraint that is added, which has no
-- upper one; the premise that is erased; or the constraint whose lower or upper bound is given up
abbrev pub fix_words : Fix → List (List ℕ)
fix_words (Add from to lo) = codes "add" ∷ point_word from ∷ point_word to ∷ signed_decimal lo ∷ codes "*" ∷ []
fix_words (Erase name) = codes "erase" ∷ name ∷ []
fix_words (LoosenLo name) = codes "loosen" ∷ name ∷ codes "lo" ∷ []
fix_words (LoosenHi name) = codes "loosen" ∷ name ∷ codes "hi" ∷ []

-- the line of a change
abbrev pub fix_line : Fix → List ℕ
fix_line fix = line_of two (fix_words fix)

-- the reply to line k: how many changes there are, and a line for each
abbrev pub repairs_text : ℕ → List Fix → List ℕ
repairs_text k fixes = head_line k (codes "repairs" ∷ decimal (length fixes) ∷ []) ++ flat_map fix_line fixes
