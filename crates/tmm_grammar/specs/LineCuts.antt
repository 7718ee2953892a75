-- What it means that a line is cut into these words.
use Rattle.std.specs.Prelude.{◌≡◌, ◌≢◌, ℕ, false, not, List, [], ◌∷◌, ◌++◌, IsTrue}
use Rattle.std.specs.List.{list_all}
use Rattle.tmm_model.specs.Lines.{is_blank, goes_on}

-- bytes that part words
abbrev pub AreBlanks : List ℕ → Type 0
AreBlanks gap = IsTrue (list_all is_blank gap)

-- at least one byte, and no blank
abbrev pub IsWord : List ℕ → Type 0
IsWord w = (w ≢ []) × IsTrue (list_all (λ b. not (is_blank b)) w)

-- the same in other words: the line is blanks, a word that goes on no further, and so on, and
-- blanks at the end
abbrev pub AreWords : List ℕ → List (List ℕ) → Type 0
AreWords line [] = AreBlanks line
AreWords line (w ∷ ws) = (gap : List ℕ) × (rest : List ℕ) × (line ≡ gap ++ w ++ rest) × AreBlanks gap × IsWord w × (goes_on rest ≡ false) × AreWords rest ws
