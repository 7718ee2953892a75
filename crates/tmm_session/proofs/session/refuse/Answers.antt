use Rattle.std.proofs.Common.{refl}
use Rattle.tmm_model.specs.Replies.{Refused}
use Rattle.tmm_session.proofs.Turns.{Tells-reply}
use Rattle.tmm_session.proofs.session.refuse.Goals as goal

pub returns : goal.returns
returns c = Tells-reply _ _ _ c.reply_no.result (Refused c.args.refusal.now) _ c.reply_no.ensures refl tt c.reply.ensures
