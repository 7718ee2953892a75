use Rattle.std.proofs.Common.{List, refl, subst, sym}
use Rattle.tmm_model.specs.declared.line.Query.TheVariants.{Path}
use Rattle.tmm_model.specs.declared.walk.WalkStep.{WalkStep}
use Rattle.tmm_model.specs.Maps.{built}
use Rattle.tmm_model.specs.Moments.{moment_of_point}
use Rattle.tmm_model.specs.Paths.{GivesPath}
use Rattle.tmm_model.specs.Replies.{PathIs}
use Rattle.tmm_session.proofs.Turns.{Tells-reply, TellsMeaning-refused_query}
use Rattle.tmm_session.proofs.session.answer_path.Goals as goal

pub returns-in-Ok : goal.returns-in-Ok
returns-in-Ok g c =
    let m = built (g.M.MapCore.list c.args.core.now) in
    let gives : GivesPath m (moment_of_point c.args.p.now) (moment_of_point c.args.q.now) c.in-Ok.far c.items.result.now =
    subst (λ (steps : List WalkStep). GivesPath m (moment_of_point c.args.p.now) (moment_of_point c.args.q.now) c.in-Ok.far steps) (sym c.items.ensures) c.in-Ok.ensures.gives in
    Tells-reply _ _ _ c.reply_path.result (PathIs c.in-Ok.far c.items.result.now) _ c.reply_path.ensures ((c.in-Ok.ensures.known, gives), refl) refl c.reply.ensures

pub returns-in-Err-Refused : goal.returns-in-Err-Refused
returns-in-Err-Refused g c =
    TellsMeaning-refused_query (g.M.MapCore.list c.args.core.now) _ (Path c.args.p.now c.args.q.now) c.in-Err-Refused.refusal _ (rw c.in-Err-Refused.field-0-is at c.in-Err-Refused.ensures.stops) c.refuse.ensures
