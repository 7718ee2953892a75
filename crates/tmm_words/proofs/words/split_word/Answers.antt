use Rattle.std.proofs.Common.{[], refl, sym}
use Rattle.std.proofs.lemmas.List.{take_rest}
use Rattle.tmm_grammar.proofs.LineWords.{words-are}
use Rattle.tmm_words.proofs.Places.{words-first}
use Rattle.tmm_words.proofs.words.split_word.Goals as goal

pub returns-in_err-begin : goal.returns-in_err-begin
returns-in_err-begin c = rw c.from_residual.ensures (sym (words-are c.args.line.now [] (c.next_word.ensures.none.0 (rw c.in_err-begin.was refl))))

pub returns : goal.returns
returns c = simp take_rest (words-first c.args.line.now 0 c.in_ok-begin.begin c.in_ok-begin.end c.in_ok-begin.ensures.some)
