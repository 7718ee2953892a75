use Rattle.tmm_model.specs.Lines.{words}
use Rattle.tmm_grammar.specs.Reading.{point_of}
use Rattle.tmm_grammar.proofs.LinePoints.{point_reader}
use Rattle.tmm_words.proofs.Spelled.{read_from}
use Rattle.tmm_script.proofs.Fronts.{front_is}
use Rattle.tmm_script.proofs.fields.take_point.Goals as goal

pub returns : goal.returns
returns c =
    front_is point_of (words c.args.rest.now.now) c.in_ok-word.word.now (words c.in_ok-word.behind.now) c.point_name.result c.in_ok-word.ensures (read_from point_reader c.in_ok-word.word.now c.point_name.result c.point_name.ensures)
