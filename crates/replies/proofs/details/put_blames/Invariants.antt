use Rattle.std.proofs.Common.{◌≡◌, ◌++◌, drop}
use Rattle.std.specs.List.{flat_map}
use Rattle.tmm_model.specs.Replies.{blame_line}
use Rattle.replies.proofs.details.put_blames.Given as goal

abbrev pub invariant-loop-blame : goal.invariant-loop-blame
invariant-loop-blame l = l.out.items ++ flat_map (blame_line l.indent) (drop l.blame-index l.blame-items) ≡ l.initial.out.items ++ flat_map (blame_line l.indent) l.blame-items
