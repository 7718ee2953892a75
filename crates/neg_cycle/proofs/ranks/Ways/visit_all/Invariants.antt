use Rattle.std.proofs.Common.{◌≡◌, ℕ, ◌-◌, ◌<◌, ◌≤◌, get_or}
use Rattle.dist_net.specs.declared.Edge.{Edge}
use Rattle.neg_cycle.specs.Ends.{IsAt, HasTo}
use Rattle.neg_cycle.specs.Ranks.{IsTight, AreWays, IsFurther}
use Rattle.neg_cycle.proofs.ranks.Ways.visit_all.Given as goal

abbrev pub invariant-loop-next : goal.invariant-loop-next
invariant-loop-next l = record {
  ways : AreWays l.net.present.edges l.b l.self;
  further : IsFurther l.fn.self l.self;
  leads : 0 < l.next → HasTo l.net.present.edges (l.next - 1) l.p;
  visited : (place : ℕ) (e : Edge) → l.next ≤ place → IsAt l.net.present.edges place e → e.to ≡ l.p → IsTight l.net.present.edges l.b e → 0 < get_or l.self.rank.items e.from 0;
}

abbrev pub decreases-loop-next : goal.decreases-loop-next
decreases-loop-next l = l.next
