-- The edit that words say.
use Rattle.std.proofs.Common.{◌≡◌, ℕ, false, List, ◌∷◌, Option, Some, None, sym, ◌∙◌}
use Rattle.std.specs.Prelude.{MatchOption, option_map}
use Rattle.tmm_model.specs.declared.line.Line.TheVariants.{Change, Question}
use Rattle.tmm_model.specs.declared.line.Query.{Query}
use Rattle.tmm_model.specs.declared.premise.Edit.{Edit}
use Rattle.tmm_model.specs.declared.version.Version.TheVariants.{Two}
use Rattle.tmm_model.specs.Lines.{Reads, is_comment}
use Rattle.tmm_grammar.specs.Reading.{edit_of, query_of}
use Rattle.tmm_grammar.proofs.LineForms.{line_of-sound, line_of-complete}
use Rattle.tmm_script.proofs.Readings.{line_change, line_other}

-- a question is no edit
no_question : (q : Option Query) (edit : Edit) → option_map Question q ≡ Some (Change edit) → ⊥
no_question None edit e = cc
no_question (Some query) edit e = cc

module _ (words : List (List ℕ)) (word : List ℕ) (rest : List (List ℕ)) (is : words ≡ word ∷ rest) (speaks : is_comment word ≡ false) where
  -- what words with this first one say as an edit of version 2
  pub edit_read : (read : Option Edit) → read ≡ edit_of Two word rest → MatchOption read ((edit : Edit) → Reads Two words (Change edit) → ⊥) (λ edit. Reads Two words (Change edit))
  edit_read (Some edit) e = line_of-sound Two words (Change edit) (line_change Two words word rest is speaks edit (sym e))
  edit_read None e = λ edit reads.
      no_question (query_of word rest) edit (sym (line_other Two words word rest is speaks (sym e)) ∙ line_of-complete Two words (Change edit) reads)
