-- What the words of a line read as.
use Rattle.std.proofs.Common.{◌≡◌, ℕ, false, List, ◌∷◌, Some, None, Err, refl}
use Rattle.std.specs.Prelude.{Ok, Result, option_map}
use Rattle.tmm_model.specs.declared.premise.Edit.{Edit}
use Rattle.tmm_model.specs.declared.version.Version.{Version}
use Rattle.tmm_model.specs.declared.line.Line.{Line}
use Rattle.tmm_model.specs.declared.line.Line.TheVariants.{Change, Question}
use Rattle.tmm_model.specs.declared.refusal.Refusal.TheVariants.{Form}
use Rattle.tmm_model.specs.declared.refusal.Stop.{Stop}
use Rattle.tmm_model.specs.declared.refusal.Stop.TheVariants.{Refused, NoMemory}
use Rattle.tmm_model.specs.Lines.{words, is_comment}
use Rattle.tmm_grammar.specs.Reading.{edit_of, query_of, line_of}
use Rattle.tmm_grammar.proofs.LineForms.{line_of-none, line_of-sound}
use Rattle.tmm_script.specs.Given.{IsRead, IsReadingOf}

module _ (version : Version) (ws : List (List ℕ)) (w : List ℕ) (rest : List (List ℕ)) (is : ws ≡ w ∷ rest) where
  module _ (f : is_comment w ≡ false) where
    pub line_change : (e : Edit) → edit_of version w rest ≡ Some e → line_of version ws ≡ Some (Change e)
    unfolding line_of
    line_change e k = rw (is, f, k) refl

    pub line_other : edit_of version w rest ≡ None → line_of version ws ≡ option_map Question (query_of w rest)
    unfolding line_of
    line_other k = rw (is, f, k) refl

-- **What is read of a line's words is what the line says.**
pub read-says : (version : Version) (line : List ℕ) (result : Result Line Stop) → IsRead result (line_of version (words line)) → IsReadingOf version line result
read-says version line (Ok l) read = line_of-sound version (words line) l read
read-says version line (Err (Refused Form)) none = λ l. line_of-none version (words line) l none
read-says version line (Err NoMemory) read = tt
read-says version line (Err (Refused _)) never = absurd never
