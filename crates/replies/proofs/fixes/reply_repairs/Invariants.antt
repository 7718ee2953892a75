use Rattle.std.proofs.Common.{◌≡◌, ◌++◌, drop}
use Rattle.std.specs.List.{flat_map}
use Rattle.replies.specs.Fixes.{fix_line}
use Rattle.replies.proofs.fixes.reply_repairs.Given as goal

abbrev pub invariant-loop-fix : goal.invariant-loop-fix
invariant-loop-fix l = l.out.items ++ flat_map fix_line (drop l.fix-index l.fixes) ≡ l.initial.out.items ++ flat_map fix_line l.fixes
