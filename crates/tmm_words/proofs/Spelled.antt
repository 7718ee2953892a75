-- A reader of words tells what a word spells.
use Rattle.std.proofs.Common.{◌≡◌, ℕ, List, Option, Some, None, refl, sym, ap, ◌∙◌}
use Rattle.std.proofs.lemmas.Option.{none-some}
use Rattle.std.specs.Prelude.{option_map}
use Rattle.tmm_model.specs.declared.point.Occ.{Occ}
use Rattle.tmm_model.specs.Points.{occ_word}
use Rattle.tmm_model.specs.Lines.{IsWellFormedOcc}
use Rattle.tmm_grammar.specs.Bare.{bare_occ}
use Rattle.tmm_grammar.specs.Reading.{occ_of}
use Rattle.tmm_grammar.proofs.LinePoints.{occ_reader}
use Rattle.tmm_grammar.proofs.LineReaders.{IsReader}
use Rattle.tmm_words.specs.Spelling.{IsSpelling}

module _ {A : Type 0} {spell : A → List ℕ} {Ok : A → Type 0} {read : List ℕ → Option A} (reads : IsReader spell Ok read) where
  pub spelling_from : (w : List ℕ) (r : Option A) → r ≡ read w → IsSpelling spell Ok w r
  spelling_from w (Some a) e = reads.sound w a (sym e)
  spelling_from w None e = λ a ok is. none-some a (e ∙ ap read is ∙ reads.complete a ok)

  pub read_from : (w : List ℕ) (r : Option A) → IsSpelling spell Ok w r → r ≡ read w
  read_from w (Some a) h = sym (ap read h.1 ∙ reads.complete a h.0)
  read_from w None h = go (read w) refl
    where
      go : (s : Option A) → read w ≡ s → None ≡ s
      go None e = refl
      go (Some a) e = let k = reads.sound w a e in absurd (h a k.0 k.1)

-- what an occurrence's word spells, but for room
pub occ_seen : (w : List ℕ) (r : Option Occ) → IsSpelling occ_word IsWellFormedOcc w r → option_map bare_occ r ≡ occ_of w
occ_seen w (Some o) h = sym (ap occ_of h.1 ∙ occ_reader.complete (bare_occ o) (h.0, refl))
occ_seen w None h = go (occ_of w) refl
  where
    go : (s : Option Occ) → occ_of w ≡ s → None ≡ s
    go None e = refl
    go (Some a) e = let k = occ_reader.sound w a e in absurd (h a k.0.0 k.1)
