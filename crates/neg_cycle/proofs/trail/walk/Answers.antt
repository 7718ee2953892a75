use Rattle.std.proofs.Common.{◌∙◌, sym}
use Rattle.tmm_model.specs.declared.bound.Bound.TheVariants.{Finite}
use Rattle.tmm_model.specs.Cycles.{sum_of}
use Rattle.walk_theory.proofs.Paths.{IsFar-same}
use Rattle.dist_net.specs.Net.{arcs_of}
use Rattle.neg_cycle.proofs.Named.{IsFar-appended, IsPath-appended}
use Rattle.neg_cycle.proofs.trail.walk.Goals as goal

pub returns-clause-exact : goal.returns-clause-exact
returns-clause-exact c =
    sym c.far.ensures.exact
    ∙ IsFar-same (arcs_of c.args.net.now.present.edges) c.args.a c.args.b c.far.result (Finite (sum_of c.follow.new.steps.items)) c.far.ensures.least
    (IsFar-appended c.args.net.now.present c.args.a c.args.b c.reserve.new.self.items c.follow.new.steps.items (c.reserve.ensures.items ∙ c.make-steps.ensures) c.in_ok-follow.ensures)

pub returns-clause-least : goal.returns-clause-least
returns-clause-least c = IsFar-appended c.args.net.now.present c.args.a c.args.b c.reserve.new.self.items c.follow.new.steps.items (c.reserve.ensures.items ∙ c.make-steps.ensures) c.in_ok-follow.ensures

pub returns-clause-path : goal.returns-clause-path
returns-clause-path c = IsPath-appended c.args.net.now.present c.args.a c.args.b c.reserve.new.self.items c.follow.new.steps.items (c.reserve.ensures.items ∙ c.make-steps.ensures) c.in_ok-follow.ensures c.invariants.ensures.distinct c.invariants.ensures.in_use c.requires.to
