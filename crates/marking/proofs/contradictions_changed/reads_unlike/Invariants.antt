use Rattle.std.proofs.Common.{ℕ, List, take}
use Rattle.list_theory.proofs.Elements.{In}
use Rattle.marking.specs.Contradicted.{AreAlike}
use Rattle.marking.proofs.contradictions_changed.reads_unlike.Given as goal

abbrev pub invariant-loop-i : goal.invariant-loop-i
invariant-loop-i l = (f : List ℕ) → In f (take l.i l.facts) → (g : List ℕ) → AreAlike l.standing.committed l.standing.present f g
