use Rattle.std.proofs.Common.{◌≡◌, ◌++◌, drop}
use Rattle.std.specs.List.{flat_map}
use Rattle.replies.specs.Dump.{premise_line}
use Rattle.replies.proofs.dump.put_premises.Given as goal

abbrev pub invariant-loop-place : goal.invariant-loop-place
invariant-loop-place l = l.out.items ++ flat_map premise_line (drop l.place l.standing.present.premises) ≡ l.initial.out.items ++ flat_map premise_line l.standing.present.premises
