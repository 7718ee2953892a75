use Rattle.std.proofs.Common.{List, map, refl, ap, ◌∙◌}
use Rattle.tmm_model.specs.declared.answer.Report.{Report}
use Rattle.tmm_model.specs.Answers.{report_of}
use Rattle.tmm_model.specs.Replies.{BrokenAre}
use Rattle.tmm_session.proofs.Turns.{Tells-reply}
use Rattle.tmm_session.proofs.session.answer_check.Goals as goal

pub returns-in-Ok : goal.returns-in-Ok
returns-in-Ok g c =
    Tells-reply _ _ _ c.reply_check.result (BrokenAre c.items.result.now) _ c.reply_check.ensures
    ((refl, ap (λ (l : List Report). map report_of l) c.items.ensures ∙ c.in-Ok.ensures), refl) refl c.reply.ensures
