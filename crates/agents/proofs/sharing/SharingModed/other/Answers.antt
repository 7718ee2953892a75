use Rattle.std.proofs.Common.{Ok, ap, sym, subst, ◌∙◌}
use Rattle.tmm_model.specs.declared.line.Line.{Line}
use Rattle.tmm_model.specs.declared.line.Line.TheVariants.{Change, Question}
use Rattle.tmm_model.specs.declared.refusal.Stop.{Stop}
use Rattle.tmm_model.specs.declared.turn.Turn.{Turn}
use Rattle.tmm_model.specs.Standing.{Standing}
use Rattle.tmm_session.specs.Sessions.{TellsMeaning}
use Rattle.agents.specs.Sharing.{SharingOther}
use Rattle.agents.specs.States.{world_of}
use Rattle.agents.specs.Worlds.{World}
use Rattle.agents.proofs.Answered.{no_line, said_is, edit_without_agent, question_without_agent, refused_without_agent}
use Rattle.agents.proofs.sharing.SharingModed.other.Goals as goal

pub returns-in-Ok-Change-clause-answers : goal.returns-in-Ok-Change-clause-answers
returns-in-Ok-Change-clause-answers g c =
    let w : World = world_of g.M.MapCore.list c.args.self.now.agents in
    let said = said_is c.version-version.result c.args.bytes.now (Change c.in-Ok-Change.field-0-0) c.parse_line.result
    (c.in-Ok-Change.is ∙ ap (λ (l : Line). Ok l) c.in-Ok-Change.field-0-is) c.parse_line.ensures.too_long c.parse_line.ensures.read in
    edit_without_agent w c.args.line c.args.bytes.now c.version-version.result c.in-Ok-Change.field-0-0 c.refuse.result
    (c.version-version.ensures ∙ ap (λ (s : Standing). s.version) (c.standing.ensures ∙ c.map.ensures.list)) said.short said.reads c.refuse.ensures

pub returns-in-Ok-Question-clause-answers : goal.returns-in-Ok-Question-clause-answers
returns-in-Ok-Question-clause-answers g c =
    let w : World = world_of g.M.MapCore.list c.args.self.now.agents in
    let said = said_is c.version-version.result c.args.bytes.now (Question c.in-Ok-Question.query) c.parse_line.result
    (c.in-Ok-Question.is ∙ ap (λ (l : Line). Ok l) c.in-Ok-Question.field-0-is) c.parse_line.ensures.too_long c.parse_line.ensures.read in
    subst (λ (t : Turn). SharingOther w c.args.line c.args.bytes.now t w) (sym c.turn.ensures)
    (question_without_agent w c.args.line c.args.bytes.now c.version-version.result c.in-Ok-Question.query c.answer.result
    (c.version-version.ensures ∙ ap (λ (s : Standing). s.version) (c.standing.ensures ∙ c.map.ensures.list)) said.short said.reads
    (subst (λ (s : Standing). TellsMeaning s c.args.line (Question c.in-Ok-Question.query) c.answer.result s) c.map-in-Ok-Question.ensures.list c.answer.ensures))

pub returns-in-Err-Refused-clause-answers : goal.returns-in-Err-Refused-clause-answers
returns-in-Err-Refused-clause-answers g c =
    let w : World = world_of g.M.MapCore.list c.args.self.now.agents in
    refused_without_agent w c.args.line c.args.bytes.now c.version-version.result c.in-Err-Refused.refusal c.tell.result
    (c.version-version.ensures ∙ ap (λ (s : Standing). s.version) (c.standing.ensures ∙ c.map.ensures.list))
    c.parse_line.result (c.in-Err-Refused.is ∙ ap (λ (s : Stop). no_line s) c.in-Err-Refused.field-0-is) c.parse_line.ensures.too_long c.parse_line.ensures.read
    c.reply_no.result c.reply_no.ensures c.tell.ensures
