use Rattle.std.proofs.Common.{◌∷◌, ◌∙◌, refl, sym, ap}
use Rattle.std.specs.Prelude.{option_map}
use Rattle.tmm_model.specs.declared.line.Line.TheVariants.{Question}
use Rattle.tmm_model.specs.Lines.{words}
use Rattle.tmm_script.proofs.Readings.{line_change, line_other}
use Rattle.tmm_script.proofs.parse.changed.Goals as goal

pub returns-in-Some-clause-read : goal.returns-in-Some-clause-read
returns-in-Some-clause-read c =
    line_change c.args.version (c.args.word.now ∷ words c.args.rest.now) c.args.word.now (words c.args.rest.now) refl c.requires.speaks c.in-Some.edit (sym c.in-Some.ensures)

pub returns-in-None-clause-read : goal.returns-in-None-clause-read
returns-in-None-clause-read c =
    line_other c.args.version (c.args.word.now ∷ words c.args.rest.now) c.args.word.now (words c.args.rest.now) refl c.requires.speaks (sym c.in-None.ensures)
    ∙ ap (option_map Question) c.requires.begins
