-- What is read of a rule's antecedents, with the words from where they end on.
use Rattle.std.specs.Prelude.{ℕ, List, Option, option_map, codes}
use Rattle.tmm_model.specs.declared.version.Version.{Version}
use Rattle.tmm_grammar.specs.Reading.{names_of, facts_of, given_part, exception_part}

-- facts, and the words behind them
abbrev pub Cut : Type 0
Cut = List (List ℕ) × List (List ℕ)

-- the words up to where antecedents end, where they are names and at most n
abbrev pub names_cut : ℕ → Version → List (List ℕ) → Option Cut
names_cut n version ws = option_map (λ names. (names, exception_part version ws)) (names_of n (given_part version ws))

-- nothing, or `if` and the antecedents
abbrev pub given_cut : Version → List (List ℕ) → Option Cut
given_cut version ws = option_map (λ facts. (facts, exception_part version ws)) (facts_of (codes "if") 4 (given_part version ws))
