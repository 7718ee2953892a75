-- Questions that name derived occurrences.
use Rattle.std.specs.Prelude.{ℕ, Bool, false, cond, ◌||◌, List, [], ◌∷◌, take, drop, codes}
use Rattle.std.specs.List.{list_any}
use Rattle.tmm_model.specs.Points.{same_name}
use Rattle.tmm_words.specs.Spelling.{begins_derived}

-- whether one of the words begins as a derived occurrence's does
abbrev pub some_derived : List (List ℕ) → Bool
some_derived ws = list_any begins_derived ws

-- behind a question's first word w, the words that name points or an occurrence
abbrev pub asked_of : List ℕ → List (List ℕ) → List (List ℕ)
asked_of w ws =
    cond (same_name w (codes "ask")) (take 2 (drop 1 ws))
    (cond (same_name w (codes "bounds") || same_name w (codes "path")) (take 2 ws)
    (cond (same_name w (codes "why")) (take 1 ws) []))

-- whether the words ask of a point or an occurrence whose word begins as a derived occurrence's
-- does
abbrev pub asks_derived : List (List ℕ) → Bool
asks_derived [] = false
asks_derived (w ∷ ws) = some_derived (asked_of w ws)
