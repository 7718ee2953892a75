use Rattle.std.proofs.Common.{refl}
use Rattle.tmm_model.specs.declared.line.Line.TheVariants.{Question}
use Rattle.tmm_model.specs.Lines.{words}
use Rattle.tmm_session.proofs.Turns.{TellsLine-meaning, TellsLine-formless, query_is_well_formed, says_query, says_something}
use Rattle.tmm_session.proofs.session.answer_query.Goals as goal

pub answer-requires-clause-well_formed : goal.answer-requires-clause-well_formed
answer-requires-clause-well_formed g c =
    let version = (g.M.MapCore.list c.args.core.now).version in
    query_is_well_formed version c.args.word.now (words c.args.rest.now) c.requires.speaks (c.requires.no_edit version) c.in-Ok.query c.in-Ok.ensures.read

pub returns-in-Ok : goal.returns-in-Ok
returns-in-Ok g c =
    let version = (g.M.MapCore.list c.args.core.now).version in
    let word = c.args.word.now in
    let rest = words c.args.rest.now in
    record {
      tells = λ bytes is.
          TellsLine-meaning _ _ _ bytes (Question c.in-Ok.query) _
          (says_query version word rest c.requires.speaks bytes is (c.requires.no_edit version) c.in-Ok.query c.in-Ok.ensures.read)
          (says_something version word rest c.requires.speaks bytes is)
          c.answer.ensures;
    }

pub returns-in-Err-Form : goal.returns-in-Err-Form
returns-in-Err-Form g c =
    let list = g.M.MapCore.list c.args.core.now in
    record {
      tells = λ bytes is.
          TellsLine-formless list _ bytes c.args.word.now (words c.args.rest.now) _ c.requires.speaks is (c.requires.no_edit list.version) (rw c.in-Err-Form.field-0-is at c.in-Err-Form.ensures.read) c.refuse.ensures;
    }

pub returns-in-Err-Memory : goal.returns-in-Err-Memory
returns-in-Err-Memory g c =
    record {
      tells = λ bytes is.
          ((says_something (g.M.MapCore.list c.args.core.now).version c.args.word.now (words c.args.rest.now) c.requires.speaks bytes is, refl), tt);
    }
