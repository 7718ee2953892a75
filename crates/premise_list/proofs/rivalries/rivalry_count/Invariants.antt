use Rattle.std.proofs.Common.{◌≡◌, ◌≤◌, length, take}
use Rattle.premise_list.specs.Rivalries.{rivalries}
use Rattle.premise_list.proofs.rivalries.rivalry_count.Given as goal

abbrev pub invariant-loop-premise : goal.invariant-loop-premise
invariant-loop-premise l = record {
  small : l.count ≤ l.premise-index;
  exact : l.count ≡ length (rivalries (take l.premise-index l.premises));
}
