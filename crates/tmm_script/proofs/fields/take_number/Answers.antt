use Rattle.tmm_model.specs.Lines.{words}
use Rattle.tmm_grammar.specs.Reading.{number_of}
use Rattle.tmm_grammar.proofs.LineNumbers.{number_reader}
use Rattle.tmm_words.proofs.Spelled.{read_from}
use Rattle.tmm_script.proofs.Fronts.{front_is}
use Rattle.tmm_script.proofs.fields.take_number.Goals as goal

pub returns : goal.returns
returns c =
    front_is number_of (words c.args.rest.now.now) c.in_ok-word.word.now (words c.in_ok-word.behind.now) c.number.result c.in_ok-word.ensures (read_from number_reader c.in_ok-word.word.now c.number.result c.number.ensures)
