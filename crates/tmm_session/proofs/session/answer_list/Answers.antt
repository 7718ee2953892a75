use Rattle.std.proofs.Common.{List, map, refl, ap, ◌∙◌}
use Rattle.tmm_model.specs.declared.changes.ListRow.{ListRow}
use Rattle.tmm_model.specs.Answers.{row_of}
use Rattle.tmm_model.specs.Replies.{Believed}
use Rattle.tmm_session.proofs.Turns.{Tells-reply}
use Rattle.tmm_session.proofs.session.answer_list.Goals as goal

pub returns-in-Ok : goal.returns-in-Ok
returns-in-Ok g c =
    Tells-reply _ _ _ c.reply_list.result (Believed c.items.result.now) _ c.reply_list.ensures
    ((refl, ap (λ (l : List ListRow). map row_of l) c.items.ensures ∙ c.in-Ok.ensures), refl) refl c.reply.ensures
