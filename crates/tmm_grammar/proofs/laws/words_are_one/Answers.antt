use Rattle.tmm_grammar.proofs.LineWords.{one_list_of_words}
use Rattle.tmm_grammar.proofs.laws.words_are_one.Goals as goal

pub returns : goal.returns
returns c = one_list_of_words
