use Rattle.std.proofs.Common.{◌≡◌, ◌++◌, drop}
use Rattle.std.specs.List.{flat_map}
use Rattle.tmm_model.specs.Replies.{name_line}
use Rattle.replies.proofs.details.put_names.Given as goal

abbrev pub invariant-loop-name : goal.invariant-loop-name
invariant-loop-name l = l.out.items ++ flat_map (name_line l.word) (drop l.name-index l.names) ≡ l.fn.out.items ++ flat_map (name_line l.word) l.names
