use Rattle.list_net.proofs.Dropping.{IsArranging}
use Rattle.list_net.proofs.cutting.put_leading_last.Given as goal

abbrev pub invariant-loop-place : goal.invariant-loop-place
invariant-loop-place l = IsArranging l.fn.net l.left l.place l.last l.net
