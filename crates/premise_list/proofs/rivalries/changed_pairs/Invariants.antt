use Rattle.std.proofs.Common.{◌⊎◌, ℕ, List, take}
use Rattle.list_theory.proofs.Elements.{In}
use Rattle.premise_list.proofs.rivalries.changed_pairs.Given as goal

abbrev pub invariant-loop-i : goal.invariant-loop-i
invariant-loop-i l = record {
  gone : (pair : List ℕ × List ℕ) → In pair (take l.i l.before) → In pair l.now ⊎ In pair l.changed.items;
  come : (pair : List ℕ × List ℕ) → In pair (take l.next l.now) → In pair l.before;
  of_lists : (pair : List ℕ × List ℕ) → In pair l.changed.items → In pair l.before ⊎ In pair l.now;
}

abbrev pub invariant-loop-j : goal.invariant-loop-j
invariant-loop-j l = record {
  gone : (pair : List ℕ × List ℕ) → In pair l.before → In pair l.now ⊎ In pair l.changed.items;
  come : (pair : List ℕ × List ℕ) → In pair (take l.j l.now) → In pair l.before ⊎ In pair l.changed.items;
  of_lists : (pair : List ℕ × List ℕ) → In pair l.changed.items → In pair l.before ⊎ In pair l.now;
}
