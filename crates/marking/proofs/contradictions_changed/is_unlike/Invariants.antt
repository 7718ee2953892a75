use Rattle.std.proofs.Common.{◌≡◌, ℕ, List, true, take}
use Rattle.list_theory.proofs.Elements.{In}
use Rattle.premise_list.specs.Rivalries.{is_pair_of}
use Rattle.marking.specs.Contradicted.{AreAlike}
use Rattle.marking.proofs.contradictions_changed.is_unlike.Given as goal

abbrev pub invariant-loop-i : goal.invariant-loop-i
invariant-loop-i l = (pair : List ℕ × List ℕ) → In pair (take l.i l.changed) → (g : List ℕ) → is_pair_of l.fact g pair ≡ true → AreAlike l.standing.committed l.standing.present l.fact g
