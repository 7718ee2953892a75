use Rattle.std.specs.List.{All}
use Rattle.occ_tree.specs.Places.{forest}
use Rattle.bearing.specs.Fast.{is_out}
use Rattle.bearing.specs.Shifts.{IsFastToken}
use Rattle.bearing.proofs.loose_tokens.fast_tokens.Given as goal

abbrev pub invariant-loop-i : goal.invariant-loop-i
invariant-loop-i l = All (IsFastToken (forest l.tree) (is_out l.fast) l.class) l.tokens.items
