use Rattle.std.proofs.Common.{get_or}
use Rattle.neg_cycle.proofs.Named.{IsWalking}
use Rattle.neg_cycle.proofs.trail.follow.Given as goal

abbrev pub invariant-loop-at : goal.invariant-loop-at
invariant-loop-at l = IsWalking l.net.present l.a l.b l.ways.rank.items l.at l.fn.steps.items l.steps.items

abbrev pub decreases-loop-at : goal.decreases-loop-at
decreases-loop-at l = get_or l.ways.rank.items l.at 0
