-- The words behind the first one of a premise's line, and what is written of them.
use Rattle.std.specs.Prelude.{◌≡◌, ℕ, List, [], ◌∷◌, ◌++◌, codes}
use Rattle.tmm_model.specs.declared.premise.Premise.{Premise}
use Rattle.tmm_model.specs.declared.premise.Premise.TheVariants as premises
use Rattle.tmm_model.specs.Points.{point_word}
use Rattle.tmm_model.specs.Lines.{number_word, bound_word, facts_words, shown}
use Rattle.tmm_script.specs.declared.print.Field.{Field}
use Rattle.tmm_script.specs.declared.print.Field.TheVariants.{Name, Point, Bound}

-- the word of a field
abbrev pub field_word : Field → List ℕ
field_word (Name n) = n
field_word (Point p) = point_word p
field_word (Bound b) = bound_word b

-- all words but the first
abbrev pub other_words : List (List ℕ) → List (List ℕ)
other_words [] = []
other_words (_ ∷ ws) = ws

-- the first word
abbrev pub first_word : List (List ℕ) → List ℕ
first_word [] = []
first_word (w ∷ _) = w

-- the words of a premise behind the first one, but for a class's facts and what follows a rule's
-- effect
abbrev pub head_words : Premise → List (List ℕ)
head_words (premises.Class name facts) = name ∷ []
head_words (premises.Rule name trigger lo hi effect given unless_facts) = name ∷ trigger ∷ number_word lo ∷ bound_word hi ∷ effect ∷ []
head_words premise = other_words (shown premise)

-- antecedents and exceptions, each behind their word
abbrev pub conditions_words : List (List ℕ) → List (List ℕ) → List (List ℕ)
conditions_words given exceptions = facts_words (codes "if") given ++ facts_words (codes "unless") exceptions

-- the words behind these
abbrev pub tail_words : Premise → List (List ℕ)
tail_words (premises.Class name facts) = facts.items
tail_words (premises.Rule name trigger lo hi effect given unless_facts) = conditions_words given.items unless_facts.items
tail_words premise = []

-- a front of the text was appended
pub record AppendsFront (old new text : List ℕ) : Type 0 where
  pub front : List ℕ
  pub rest : List ℕ
  pub parts : text ≡ front ++ rest
  pub appended : new ≡ old ++ front
