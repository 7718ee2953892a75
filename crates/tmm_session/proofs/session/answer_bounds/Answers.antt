use Rattle.std.proofs.Common.{refl}
use Rattle.tmm_model.specs.declared.line.Query.TheVariants.{Bounds}
use Rattle.tmm_model.specs.Replies.{BoundsAre}
use Rattle.tmm_session.proofs.Turns.{Tells-reply, TellsMeaning-refused_query}
use Rattle.tmm_session.proofs.session.answer_bounds.Goals as goal

pub returns-in-Ok : goal.returns-in-Ok
returns-in-Ok g c =
    Tells-reply _ _ _ c.reply_bounds.result (BoundsAre c.in-Ok.lo c.in-Ok.hi) _ c.reply_bounds.ensures
    ((c.in-Ok.ensures.known, (c.in-Ok.ensures.low, c.in-Ok.ensures.high)), refl) refl c.reply.ensures

pub returns-in-Err-Refused : goal.returns-in-Err-Refused
returns-in-Err-Refused g c =
    TellsMeaning-refused_query (g.M.MapCore.list c.args.core.now) _ (Bounds c.args.p.now c.args.q.now) c.in-Err-Refused.refusal _ (rw c.in-Err-Refused.field-0-is at c.in-Err-Refused.ensures.stops) c.refuse.ensures
