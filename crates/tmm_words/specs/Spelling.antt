-- What a word spells.
use Rattle.std.specs.Prelude.{◌≡◌, ◌≢◌, ℕ, Bool, false, ◌&&◌, List, [], ◌∷◌, Option, Some, None}
use Rattle.tmm_model.specs.declared.point.Occ.{Occ}
use Rattle.tmm_model.specs.Names.{is_name}
use Rattle.tmm_model.specs.Points.{occ_word}
use Rattle.tmm_model.specs.Lines.{IsWellFormedOcc}
use Rattle.tmm_grammar.specs.Reading.{parts}

-- The word is the spelling of the value, and there is no value exactly where the word is the
-- spelling of none.
abbrev pub IsSpelling : {A : Type 0} → (A → List ℕ) → (A → Type 0) → List ℕ → Option A → Type 0
IsSpelling spell Ok w (Some a) = Ok a × (w ≡ spell a)
IsSpelling {A} spell Ok w None = (a : A) → Ok a → w ≢ spell a

-- An occurrence that the word names has rules.
abbrev pub HasRules : List ℕ → Type 0
HasRules w = (a : Occ) → IsWellFormedOcc a → w ≡ occ_word a → a.rules.items ≢ []

-- whether the parts are a root, a rule behind it and any more, and these two are names
abbrev pub have_rule : List (List ℕ) → Bool
have_rule (root ∷ rule ∷ _) = is_name root && is_name rule
have_rule _ = false

-- whether the word begins as a derived occurrence's does: a name, a `/` and a further name
abbrev pub begins_derived : List ℕ → Bool
begins_derived w = have_rule (parts w)
