use Rattle.std.proofs.Common.{refl}
use Rattle.tmm_model.specs.Replies.{SizeIs}
use Rattle.tmm_session.proofs.Turns.{Tells-reply}
use Rattle.tmm_session.proofs.session.answer_size.Goals as goal

pub returns : goal.returns
returns g c = Tells-reply _ _ _ c.reply_number.result (SizeIs c.size-size.result) _ c.reply_number.ensures ((refl, c.size-size.ensures), refl) refl c.reply.ensures
