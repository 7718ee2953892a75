use Rattle.std.proofs.Common.{◌≡◌, ℕ, List, false, take}
use Rattle.tmm_model.specs.Beliefs.{are_rivals}
use Rattle.list_theory.proofs.Elements.{In}
use Rattle.marking.proofs.rival_points_moved.reads_no_rival.Given as goal

abbrev pub invariant-loop-i : goal.invariant-loop-i
invariant-loop-i l = (f : List ℕ) → In f (take l.i l.facts) → (g : List ℕ) → (are_rivals l.standing.committed f g ≡ false) × (are_rivals l.standing.present f g ≡ false)
