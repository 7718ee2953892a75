use Rattle.std.proofs.Common.{sym}
use Rattle.neg_cycle.proofs.Checked.{IsTrue-found, none_found, refuted}
use Rattle.neg_cycle.proofs.check.is_standing.Goals as goal

pub returns-in-Some : goal.returns-in-Some
returns-in-Some c = IsTrue-found c.args.standing.now.present.premises c.invariants.ensures.well_named c.args.step.now c.is_step_of.result c.in-Some.premise.now c.in-Some.ensures c.is_step_of.ensures

pub returns-in-None : goal.returns-in-None
returns-in-None c = refuted (none_found c.args.standing.now.present.premises c.invariants.ensures.well_named c.args.step.now (sym c.in-None.ensures))
