use Rattle.std.proofs.Common.{◌∙◌, ap}
use Rattle.tmm_model.specs.declared.point.PointName.TheVariants.{Begin}
use Rattle.tmm_model.specs.Moments.{At, After, along}
use Rattle.belief_theory.proofs.Moments.{along-push}
use Rattle.timeline.proofs.rule.after.Goals as goal

pub returns : goal.returns
returns c =
    let t = c.args.trigger.now in
    let made = c.in_ok-occ.occ in
    (λ i. along (At (Begin (c.in_ok-occ.ensures.root i))) (c.in_ok-append.ensures.ok i))
    ∙ along-push (At (Begin t.root)) made.rules.items c.args.rule
    ∙ ap (λ rs. After (along (At (Begin t.root)) rs) c.args.rule) c.in_ok-occ.ensures.rules
