use Rattle.std.proofs.Common.{refl}
use Rattle.tmm_model.specs.Replies.{AuditYes}
use Rattle.tmm_session.proofs.Turns.{Tells-reply}
use Rattle.tmm_session.proofs.session.answer_audit.Goals as goal

pub returns-in-Ok : goal.returns-in-Ok
returns-in-Ok g c = Tells-reply _ _ _ c.reply_number.result AuditYes _ c.reply_number.ensures ((refl, tt), refl) refl c.reply.ensures
