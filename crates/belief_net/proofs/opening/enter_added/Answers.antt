use Rattle.std.proofs.Common.{subst}
use Rattle.belief_net.specs.Updating.{MayAdd, MayBeAdded}
use Rattle.belief_net.proofs.KindEvents.{finds_still}
use Rattle.belief_net.proofs.opening.enter_added.Goals as goal

pub enter_rule-requires-clause-others : goal.enter_rule-requires-clause-others
enter_rule-requires-clause-others c =
    let s = c.args.standing.now.present in
    let may : MayBeAdded s c.args.beliefs.now c.in-Add.premise = subst (λ k. MayAdd s k c.args.beliefs.now) c.in-Add.is c.requires.may in
    finds_still s c.args.net.now.present c.in-Add.premise c.args.beliefs.now c.enter_root.new.beliefs c.in_ok-enter_root-in-Add.ensures.enters may.others
