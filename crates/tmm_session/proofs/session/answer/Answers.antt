use Rattle.std.proofs.Common.{◌≡◌, map, refl, subst, sym, ap}
use Rattle.tmm_model.specs.declared.line.Line.TheVariants.{Question}
use Rattle.tmm_model.specs.declared.line.Query.{Query}
use Rattle.tmm_model.specs.declared.line.Query.TheVariants.{Dump}
use Rattle.tmm_model.specs.Lines.{shown_text}
use Rattle.tmm_model.specs.Replies.{DumpIs}
use Rattle.tmm_model.specs.Standing.{Standing}
use Rattle.tmm_model.specs.Transcript.{AnswersLine}
use Rattle.tmm_session.specs.Sessions.{TellsMeaning}
use Rattle.tmm_session.proofs.Turns.{Tells-reply}
use Rattle.tmm_session.proofs.session.answer.Goals as goal

pub returns-in-Dump : goal.returns-in-Dump
returns-in-Dump g c =
    let list = g.M.MapCore.list c.args.core.now in
    let answers : (s : Standing) → s ≡ list → AnswersLine list (Question Dump) (DumpIs s.version s.horizon (map shown_text s.premises)) list =
    λ s is. ((refl, (ap (λ (t : Standing). t.version) is, ap (λ (t : Standing). t.horizon) is, ap (λ (t : Standing). map shown_text t.premises) is)), refl) in
    subst (λ (query : Query). TellsMeaning list c.args.line (Question query) c.reply.result list) (sym c.in-Dump.is)
    (Tells-reply _ _ _ c.reply_dump.result (DumpIs c.standing.result.now.present.version c.standing.result.now.present.horizon (map shown_text c.standing.result.now.present.premises)) _ c.reply_dump.ensures
    (answers c.standing.result.now.present c.standing.ensures) refl c.reply.ensures)
