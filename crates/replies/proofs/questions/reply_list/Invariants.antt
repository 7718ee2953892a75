use Rattle.std.proofs.Common.{◌≡◌, ◌++◌, drop}
use Rattle.std.specs.List.{flat_map}
use Rattle.tmm_model.specs.Replies.{row_line}
use Rattle.replies.proofs.questions.reply_list.Given as goal

abbrev pub invariant-loop-row : goal.invariant-loop-row
invariant-loop-row l = l.out.items ++ flat_map row_line (drop l.row-index l.rows) ≡ l.initial.out.items ++ flat_map row_line l.rows
