-- The words `demo N`.
use Rattle.std.proofs.Common.{◌≡◌, ◌∙◌, ℕ, ◌≤◌, ℤ, pos, List, Some, None, ap, arith}
use Rattle.std.specs.Prelude.{decimal}
use Rattle.tmm_grammar.proofs.LineNumbers.{number_of-complete}
use Rattle.tmm_model.specs.Lines.{number_word, IsNumber}
use Rattle.tmm_grammar.specs.Reading.{number_of}
use Rattle.tmm_words.specs.Spelling.{IsSpelling}

-- a word that is no number is none from 1 to 1000
pub no_number : (word : List ℕ) (n : ℕ) → IsSpelling number_word IsNumber word None → word ≡ decimal n → n ≤ 1000 → ⊥
no_number word n spelt is few = spelt (pos n) (grind arith) is

-- a word is one number
pub one_number : (word : List ℕ) (z : ℤ) (n : ℕ) → IsSpelling number_word IsNumber word (Some z) → word ≡ decimal n → n ≤ 1000 → z ≡ pos n
one_number word z n spelt is few =
    let read : number_of word ≡ Some z = ap number_of spelt.1 ∙ number_of-complete z spelt.0 in
    let small : IsNumber (pos n) = grind arith in
    let again : number_of word ≡ Some (pos n) = ap number_of is ∙ number_of-complete (pos n) small in
    cc (read, again)
