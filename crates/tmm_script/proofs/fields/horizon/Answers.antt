use Rattle.std.proofs.Common.{rules, w64, FitsSigned, to_z-of_z, sym, ap, ◌∙◌}
use Rattle.tmm_grammar.specs.Reading.{◌>>=◌, horizon_of, horizon_from}
use Rattle.tmm_grammar.proofs.LineNumbers.{number_reader}
use Rattle.tmm_words.proofs.Spelled.{read_from}
use Rattle.tmm_script.proofs.fields.horizon.Goals as goal

pub returns-in_err-number : goal.returns-in_err-number
unfolding horizon_of
returns-in_err-number c =
    let read = read_from number_reader c.args.word.now c.number.result c.number.ensures in
    c.from_residual.ensures ∙ ap (λ r. r >>= horizon_from) (sym c.in_err-number.was ∙ read)

pub returns : goal.returns
unfolding horizon_of
returns c =
    let read = read_from number_reader c.args.word.now c.number.result c.number.ensures in
    let fits : FitsSigned w64 c.in_ok-number.field-0 = search rules in
    (simp to_z-of_z at c.within_horizons.ensures) ∙ ap (λ r. r >>= horizon_from) (sym c.in_ok-number.was ∙ read)
