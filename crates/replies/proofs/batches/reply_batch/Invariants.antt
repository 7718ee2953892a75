use Rattle.std.proofs.Common.{◌≡◌, ◌++◌, drop}
use Rattle.std.specs.List.{flat_map}
use Rattle.replies.specs.Batches.{taken_lines}
use Rattle.replies.proofs.batches.reply_batch.Given as goal

abbrev pub invariant-loop-edit : goal.invariant-loop-edit
invariant-loop-edit l = l.out.items ++ flat_map taken_lines (drop l.edit-index l.taken) ≡ l.initial.out.items ++ flat_map taken_lines l.taken
