use Rattle.std.proofs.Common.{◌-◌}
use Rattle.neg_cycle.specs.Ranks.{AreWays}
use Rattle.neg_cycle.proofs.Followed.{IsThrough}
use Rattle.neg_cycle.proofs.ranks.Ways.go_back.Given as goal

abbrev pub invariant-loop-done : goal.invariant-loop-done
invariant-loop-done l = record {
  ways : AreWays l.net.present.edges l.b l.self;
  through : IsThrough l.net.present.edges l.b l.done l.self.rank.items l.self.ranked.items;
}

abbrev pub decreases-loop-done : goal.decreases-loop-done
decreases-loop-done l = 256 - l.done
