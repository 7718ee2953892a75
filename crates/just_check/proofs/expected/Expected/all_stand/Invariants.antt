use Rattle.std.proofs.Common.{take}
use Rattle.just_check.proofs.Entries.{AllStand}
use Rattle.just_check.proofs.expected.Expected.all_stand.Given as goal

abbrev pub invariant-loop-place : goal.invariant-loop-place
invariant-loop-place l = AllStand (take l.place l.self.nodes.entries)
