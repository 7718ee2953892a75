use Rattle.std.proofs.Common.{◌≡◌, drop}
use Rattle.tmm_io.specs.Kept.{stated_for}
use Rattle.tmm_io.proofs.mem_sink.stated.Given as goal

-- the pairs before this one are of other calls
abbrev pub invariant-loop-listed : goal.invariant-loop-listed
invariant-loop-listed l = stated_for l.call l.fails ≡ stated_for l.call (drop l.listed-index l.fails)
