use Rattle.std.proofs.Common.{◌++◌, take}
use Rattle.premise_list.specs.Gone.{SameNames}
use Rattle.premise_list.proofs.erase.lose.Given as goal

abbrev pub invariant-loop-fact : goal.invariant-loop-fact
invariant-loop-fact l = SameNames l.gone.keys (take l.fact-index l.fact-items ++ l.initial.gone.keys)
