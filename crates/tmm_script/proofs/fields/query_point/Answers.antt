use Rattle.std.proofs.Common.{sym, refl, ◌∙◌}
use Rattle.tmm_grammar.specs.Reading.{query_point_of}
use Rattle.tmm_grammar.proofs.LinePoints.{point_reader}
use Rattle.tmm_words.proofs.Spelled.{read_from}
use Rattle.tmm_script.proofs.fields.query_point.Goals as goal

pub returns-in-Some-clause-read : goal.returns-in-Some-clause-read
unfolding query_point_of
returns-in-Some-clause-read c =
    let read = read_from point_reader c.args.word.now c.point_name.result c.point_name.ensures in
    rw (sym c.contains.ensures.value ∙ c.if-contains.false, sym read ∙ c.in-Some.is) refl

pub returns-in-None-clause-read : goal.returns-in-None-clause-read
unfolding query_point_of
returns-in-None-clause-read c =
    let read = read_from point_reader c.args.word.now c.point_name.result c.point_name.ensures in
    rw (sym c.contains.ensures.value ∙ c.if-contains.false, sym read ∙ c.in-None.is) refl
