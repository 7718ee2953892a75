use Rattle.std.proofs.Common.{◌≡◌, refl, subst, sym}
use Rattle.tmm_model.specs.declared.line.Query.TheVariants.{Ask}
use Rattle.tmm_model.specs.declared.line.Line.TheVariants.{Question}
use Rattle.tmm_model.specs.Replies.{Answered}
use Rattle.tmm_model.specs.Transcript.{AnswersLine}
use Rattle.tmm_session.proofs.Turns.{Tells-so, TellsMeaning-refused_query}
use Rattle.tmm_session.proofs.session.answer_ask.Goals as goal

pub returns-in-Ok : goal.returns-in-Ok
returns-in-Ok g c =
    let list = g.M.MapCore.list c.args.core.now in
    Tells-so _ (λ reply. reply ≡ Answered c.in-Ok.answer) (λ reply. AnswersLine list (Question (Ask c.args.fact c.args.p.now c.args.q.now)) reply list) (Unit {0}) (list ≡ list)
    (λ reply e. subst (λ r. AnswersLine list (Question (Ask c.args.fact c.args.p.now c.args.q.now)) r list) (sym e) ((c.in-Ok.ensures.known, c.in-Ok.ensures.answer), refl)) (λ _. refl) _ c.tell_answer.ensures

pub returns-in-Err-Refused : goal.returns-in-Err-Refused
returns-in-Err-Refused g c =
    TellsMeaning-refused_query (g.M.MapCore.list c.args.core.now) _ (Ask c.args.fact c.args.p.now c.args.q.now) c.in-Err-Refused.refusal _ (rw c.in-Err-Refused.field-0-is at c.in-Err-Refused.ensures.stops) c.refuse.ensures
