use Rattle.std.proofs.Common.{◌≡◌, ◌++◌, take}
use Rattle.premise_list.specs.Rivalries.{rivalries}
use Rattle.premise_list.proofs.rivalries.Rivalries.add_all.Given as goal

abbrev pub invariant-loop-premise : goal.invariant-loop-premise
invariant-loop-premise l = l.self ≡ record l.initial.self { present = l.initial.self.present ++ rivalries (take l.premise-index l.premises) }
