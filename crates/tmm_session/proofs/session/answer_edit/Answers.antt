use Rattle.std.proofs.Common.{◌≡◌, Some, None, sym, subst, ap, ◌∙◌}
use Rattle.tmm_model.specs.declared.line.Line.TheVariants.{Change}
use Rattle.tmm_model.specs.declared.version.Version.{Version}
use Rattle.tmm_model.specs.Lines.{words}
use Rattle.tmm_model.specs.Standing.{Standing}
use Rattle.tmm_grammar.specs.Reading.{edit_of}
use Rattle.tmm_session.proofs.Turns.{TellsLine-meaning, TellsLine-formless, edit_is_well_formed, says_edit, says_something}
use Rattle.tmm_session.proofs.session.answer_edit.Goals as goal

pub change-requires-clause-well_formed : goal.change-requires-clause-well_formed
change-requires-clause-well_formed g c =
    edit_is_well_formed c.version.result c.args.word.now (words c.args.rest.now) c.requires.speaks c.in-Some.edit c.in-Some.ensures

pub returns-in-Some-clause-tells : goal.returns-in-Some-clause-tells
returns-in-Some-clause-tells g c = λ bytes is.
    let list = g.M.MapCore.list c.args.core.now in
    let word = c.args.word.now in
    let rest = words c.args.rest.now in
    let version : c.version.result ≡ list.version = c.version.ensures ∙ ap (λ (s : Standing). s.version) c.standing.ensures in
    let read : Some c.in-Some.edit ≡ edit_of list.version word rest = subst (λ (v : Version). Some c.in-Some.edit ≡ edit_of v word rest) version c.in-Some.ensures in
    TellsLine-meaning _ _ _ bytes (Change c.in-Some.edit) _
    (says_edit list.version word rest c.requires.speaks bytes is c.in-Some.edit read)
    (says_something list.version word rest c.requires.speaks bytes is)
    c.change.ensures.tells

pub returns-in-None-clause-tells : goal.returns-in-None-clause-tells
returns-in-None-clause-tells g c = λ bytes is.
    let list = g.M.MapCore.list c.args.core.now in
    let word = c.args.word.now in
    let rest = words c.args.rest.now in
    let version : c.version.result ≡ list.version = c.version.ensures ∙ ap (λ (s : Standing). s.version) c.standing.ensures in
    let none : None ≡ edit_of list.version word rest = subst (λ (v : Version). None ≡ edit_of v word rest) version c.in-None.ensures in
    TellsLine-formless list _ bytes word rest _ c.requires.speaks is (sym none)
    c.requires.no_question c.refuse.ensures
