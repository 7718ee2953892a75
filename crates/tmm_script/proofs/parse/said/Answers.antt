use Rattle.std.proofs.Common.{◌∷◌, refl, sym, subst}
use Rattle.tmm_model.specs.Lines.{words}
use Rattle.tmm_script.specs.Given.{IsRead}
use Rattle.tmm_script.proofs.Readings.{line_other}
use Rattle.tmm_script.proofs.parse.said.Goals as goal

pub returns-else-begins_edit-clause-read : goal.returns-else-begins_edit-clause-read
returns-else-begins_edit-clause-read c =
    let rest = words c.args.rest.now in
    subst (IsRead c.asked.result) (sym (line_other c.args.version (c.args.word.now ∷ rest) c.args.word.now rest refl c.requires (c.begins_edit.ensures.other c.if-begins_edit.false c.args.version rest))) c.asked.ensures.read
