use Rattle.std.proofs.Common.{subst, sym}
use Rattle.belief_theory.specs.KeptLists.{IsKept}
use Rattle.belief_theory.proofs.StayKept.{empty_is_kept}
use Rattle.timeline.proofs.mode.Dating.make.Goals as goal

pub returns-clause-ready : goal.returns-clause-ready
returns-clause-ready g c = record { idle = c.in_ok-core.ensures.idle; kept = subst IsKept (sym c.in_ok-core.ensures.list) empty_is_kept }
