use Rattle.std.proofs.Common.{◌≡◌, ◌≤◌, ◌<◌, ◌-◌, ℕ, true}
use Rattle.repairs.specs.Repairs.{is_declared, repair_name}
use Rattle.repairs.proofs.free_names.free_name.Given as goal

-- the names of smaller numbers are declared
abbrev pub invariant-loop-number : goal.invariant-loop-number
invariant-loop-number l = record {
  within : l.number ≤ l.words;
  declared : (i : ℕ) → i < l.number → is_declared l.standing.present (repair_name i) ≡ true;
}

abbrev pub decreases-loop-number : goal.decreases-loop-number
decreases-loop-number l = l.words - l.number
