use Rattle.std.proofs.Common.{◌≡◌, ◌+◌, ◌*◌, ◌≤◌, ◌++◌, length, take, drop}
use Rattle.tmm_model.specs.Points.{slashed}
use Rattle.tmm_model.proofs.name.write_links.Given as goal

-- what is written and the names that are left, for which there is room
abbrev pub invariant-loop-name : goal.invariant-loop-name
invariant-loop-name l = record {
  size : length l.out ≡ length l.fn.out;
  room : l.at + length (drop l.name-index l.names) * 25 ≤ length l.out;
  written : take l.at l.out ++ slashed (drop l.name-index l.names) ≡ take l.from l.fn.out ++ slashed l.names;
}
