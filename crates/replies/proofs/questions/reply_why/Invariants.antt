use Rattle.std.proofs.Common.{◌≡◌, ◌++◌, drop}
use Rattle.std.specs.List.{flat_map}
use Rattle.tmm_model.specs.Replies.{why_lines}
use Rattle.replies.proofs.questions.reply_why.Given as goal

abbrev pub invariant-loop-reason : goal.invariant-loop-reason
invariant-loop-reason l = l.out.items ++ flat_map why_lines (drop l.reason-index l.lines) ≡ l.initial.out.items ++ flat_map why_lines l.lines
