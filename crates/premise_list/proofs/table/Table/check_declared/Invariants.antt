use Rattle.std.proofs.Common.{◌≡◌, ◌∷◌, ◌++◌, take, drop}
use Rattle.tmm_model.specs.Sorts.{declared_by}
use Rattle.tmm_model.specs.Verdicts.{first_taken, words_known}
use Rattle.premise_list.proofs.table.Table.check_declared.Given as goal

-- what is left to look at, where the facts so far are known
abbrev pub invariant-loop-i : goal.invariant-loop-i
invariant-loop-i l =
    first_taken (take l.i l.facts ++ l.name ∷ words_known l.self.premises) (drop l.i l.facts) ≡ first_taken (words_known l.self.premises) (declared_by l.premise)
