use Rattle.std.proofs.Common.{length, ◌≤◌}
use Rattle.tmm_model.specs.Tokens.{of_one_class, clips}
use Rattle.clipping.specs.ByDate.{NonePass}
use Rattle.clipping.specs.Stretches.{rows_of}
use Rattle.clipping.proofs.stretches.last_clipper.Given as goal

abbrev pub invariant-loop-left : goal.invariant-loop-left
invariant-loop-left g l = record {
  within : l.left ≤ length l.tokens;
  fail : NonePass (clips of_one_class (g.S.Sure.distance l.order) l.k) (rows_of l.tokens) l.left (length (rows_of l.tokens));
}

abbrev pub decreases-loop-left : goal.decreases-loop-left
decreases-loop-left g l = l.left
