use Rattle.std.proofs.Common.{refl}
use Rattle.tmm_model.specs.declared.line.Query.TheVariants.{Why}
use Rattle.tmm_model.specs.Replies.{Reasons}
use Rattle.tmm_session.proofs.Turns.{TellsMeaning-refused_query, why_text}
use Rattle.tmm_session.proofs.session.tell_why.Goals as goal

pub returns-in-Ok : goal.returns-in-Ok
returns-in-Ok g c =
    let heard = c.in-Ok.ensures.reasons in
    (Reasons heard.lines, ((c.in-Ok.ensures.known, heard.wanted), refl), why_text c.args.line heard.lines _ _ c.requires.first heard.grown, refl)

pub returns-in-Err-Refused : goal.returns-in-Err-Refused
returns-in-Err-Refused g c =
    TellsMeaning-refused_query (g.M.MapCore.list c.args.core.now) _ (Why c.args.occ.now) c.in-Err-Refused.refusal _ (rw c.in-Err-Refused.field-0-is at c.in-Err-Refused.ensures.stops) c.refuse.ensures
