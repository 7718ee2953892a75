use Rattle.std.proofs.Common.{IfErr, subst, rules}
use Rattle.tmm_model.specs.Maps.{built}
use Rattle.timeline.specs.Told.{StopsTimeline}
use Rattle.timeline.proofs.timeline.Goals as goal

pub returns-in_err-play-clause-stops : goal.returns-in_err-play-clause-stops
returns-in_err-play-clause-stops g c =
    let told = c.in_err-play.ensures.stops in
    let made = c.from_residual-in_err-play.ensures in
    subst (λ s. IfErr c.from_residual-in_err-play.result (StopsTimeline (built s))) c.standing-2.ensures (search rules)
