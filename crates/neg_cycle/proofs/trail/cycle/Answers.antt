use Rattle.std.proofs.Common.{◌∙◌, List, [], ◌∷◌, ◌++◌, ap}
use Rattle.tmm_model.specs.declared.walk.WalkStep.{WalkStep}
use Rattle.neg_cycle.proofs.Named.{HasFar-conflict, IsCycleBy-appended}
use Rattle.neg_cycle.proofs.trail.cycle.Goals as goal

pub find_ways-requires-clause-reached : goal.find_ways-requires-clause-reached
find_ways-requires-clause-reached c = HasFar-conflict c.args.net.now.present.edges c.args.edges.now c.args.found c.index-edges-found.result c.invariants.ensures.dates c.index-edges-found.is c.requires.conflict

pub follow-requires-clause-reached : goal.follow-requires-clause-reached
follow-requires-clause-reached c = HasFar-conflict c.args.net.now.present.edges c.args.edges.now c.args.found c.index-edges-found.result c.invariants.ensures.dates c.index-edges-found.is c.requires.conflict

pub returns : goal.returns
returns c d =
    IsCycleBy-appended c.args.net.now.present c.args.edges.now c.args.found c.index-edges-found.result c.extend.new.self.items c.follow.new.steps.items c.invariants.ensures.distinct c.invariants.ensures.in_use c.requires.points c.index-edges-found.is
    c.requires.conflict (c.in_ok-extend.ensures.ok ∙ (ap (λ (t : List WalkStep). t ++ c.step_of-first.result ∷ []) (c.reserve.ensures.items ∙ c.make-steps.ensures) ∙ ap (λ (x : WalkStep). x ∷ []) c.step_of-first.ensures)) c.in_ok-follow.ensures d
