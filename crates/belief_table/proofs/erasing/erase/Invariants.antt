use Rattle.std.proofs.Common.{◌≡◌, ℕ, List, take, None}
use Rattle.tmm_model.specs.Standing.{Standing, premise_in}
use Rattle.list_theory.proofs.Elements.{In}
use Rattle.belief_table.specs.LastCommit.{KeepLast}
use Rattle.belief_table.specs.Erasing.{ShedsAll, Spares, IsFreeOf}
use Rattle.belief_table.proofs.erasing.erase.Given as goal

abbrev pub invariant-loop-name : goal.invariant-loop-name
invariant-loop-name l = record {
  sheds : ShedsAll l.fn.beliefs l.beliefs l.departed;
  spares : (s : Standing) → ((name : List ℕ) → In name (take l.name-index l.names) → premise_in s.premises name ≡ None) → Spares s l.fn.beliefs l.beliefs;
  free : (name : List ℕ) → In name (take l.name-index l.names) → IsFreeOf l.beliefs name;
  last : KeepLast l.fn.beliefs l.beliefs;
}
