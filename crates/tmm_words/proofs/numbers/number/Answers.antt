use Rattle.tmm_grammar.proofs.LineNumbers.{number_reader}
use Rattle.tmm_words.proofs.Spelled.{spelling_from}
use Rattle.tmm_words.proofs.numbers.number.Goals as goal

pub returns : goal.returns
returns c = spelling_from number_reader c.args.word.now c.signed.result c.signed.ensures
