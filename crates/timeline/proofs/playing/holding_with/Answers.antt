use Rattle.std.proofs.Common.{◌∙◌, subst}
use Rattle.std.specs.Prelude.{IfOk}
use Rattle.timeline.specs.Holding.{IsHeldOn}
use Rattle.timeline.proofs.playing.holding_with.Goals as goal

pub returns : goal.returns
returns c =
    subst (λ l. IfOk c.held_on.result (λ holding. IsHeldOn c.args.standing.now.present c.args.day l c.args.before.now holding.items))
    (c.as_slice.ensures.value ∙ c.in_ok-coming.ensures) c.held_on.ensures
