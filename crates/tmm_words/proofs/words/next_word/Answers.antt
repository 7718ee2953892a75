use Rattle.std.proofs.Common.{refl, sym, ◌∙◌}
use Rattle.std.proofs.lemmas.List.{drop-drop, take_rest}
use Rattle.tmm_words.proofs.Places.{blank_from, byte_from, word_from, len_of}
use Rattle.tmm_words.proofs.words.next_word.Goals as goal

pub returns-in_err-begin-clause-none : goal.returns-in_err-begin-clause-none
returns-in_err-begin-clause-none c =
    let place = simp take_rest at c.first_byte.ensures.place in
    (λ _. blank_from c.args.line.now c.args.from c.requires (sym place ∙ c.in_err-begin.was), λ _. rw c.from_residual.ensures refl)

pub returns-clause-none : goal.returns-clause-none
returns-clause-none c =
    let place = simp take_rest at c.first_byte.ensures.place in
    (λ e. absurd cc, λ h. absurd (byte_from c.args.line.now c.args.from c.requires c.in_ok-begin.begin (sym place ∙ c.in_ok-begin.was) h))

pub returns-clause-some : goal.returns-clause-some
returns-clause-some c =
    let place = simp take_rest at c.first_byte.ensures.place in
    word_from c.args.line.now c.args.from c.requires c.in_ok-begin.begin (sym place ∙ c.in_ok-begin.was) c.unwrap_or-len.result
    (simp drop-drop at (simp take_rest at (len_of c.unwrap_or-len.result c.first_blank.result _ c.unwrap_or-len.ensures c.first_blank.ensures.place)))
