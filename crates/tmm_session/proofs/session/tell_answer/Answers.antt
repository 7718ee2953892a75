use Rattle.std.proofs.Common.{◌≡◌, MatchResult, refl, subst}
use Rattle.tmm_session.specs.declared.told.ReplyKind.{ReplyKind}
use Rattle.tmm_session.specs.declared.told.Told.TheVariants.{Reply as ReplyOf, Memory}
use Rattle.tmm_model.specs.Replies.{Answered}
use Rattle.tmm_session.proofs.Turns.{Tells-reply}
use Rattle.tmm_session.proofs.session.tell_answer.Goals as goal

pub returns : goal.returns
returns c =
    Tells-reply _ _ _ c.reply_answer.result (Answered c.args.answer.now) _ c.reply_answer.ensures refl tt
    (subst (λ (kind : ReplyKind). MatchResult c.reply_answer.result (λ text. c.reply.result ≡ ReplyOf text kind) (λ _. c.reply.result ≡ Memory)) c.answer_kind.ensures c.reply.ensures)
