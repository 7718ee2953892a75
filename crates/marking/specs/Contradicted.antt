-- Rows that wait since an edit adds or takes out a premise that says which facts contradict each
-- other.
use Rattle.std.specs.Prelude.{◌≡◌, ◌≢◌, ◌⊎◌, ℕ, pos, List, Some}
use Rattle.tmm_model.specs.Beliefs.{are_rivals}
use Rattle.tmm_model.specs.Moments.{read_by, rule_of}
use Rattle.tmm_model.specs.Sorts.{class_in}
use Rattle.tmm_model.specs.Standing.{Standing}
use Rattle.list_theory.proofs.Elements.{In}
use Rattle.undo_rows.specs.declared.row.Row.{Row as TableRow}
use Rattle.decision_rows.specs.declared.row.Pair.{Pair}
use Rattle.occ_tree.specs.Standing.{State}
use Rattle.belief_table.specs.Marks.{IsAsLate}

-- a class declares both facts
abbrev pub ShareClass : Standing → List ℕ → List ℕ → Type 0
ShareClass s f g = (class : List ℕ) × (class_in s.premises f ≡ Some class) × (class_in s.premises g ≡ Some class)

-- By one of both lists alone a premise says that the facts contradict each other, and no class
-- declares both.
abbrev pub AreUnlike : Standing → Standing → List ℕ → List ℕ → Type 0
AreUnlike old s f g = (are_rivals old f g ≢ are_rivals s f g) × (ShareClass s f g → ⊥)

-- by both lists a premise says so or by none, or a class declares both
abbrev pub AreAlike : Standing → Standing → List ℕ → List ℕ → Type 0
AreAlike old s f g = (are_rivals old f g ≡ are_rivals s f g) ⊎ ShareClass s f g

-- the rule reads a fact that another one contradicts by one of both lists alone
abbrev pub ReadsUnlike : Standing → Standing → List ℕ → Type 0
ReadsUnlike old s r = (f : List ℕ) × (g : List ℕ) × In f (read_by (rule_of s r)) × AreUnlike old s f g

-- it reads none of the kind
abbrev pub ReadsAlike : Standing → Standing → List ℕ → Type 0
ReadsAlike old s r = (f : List ℕ) → In f (read_by (rule_of s r)) → (g : List ℕ) → AreAlike old s f g

-- so does the rule of the row, or its event is before 0, as none is
abbrev pub IsAlikeRow : Standing → Standing → State → List ℕ → TableRow Pair 8 → Type 0
IsAlikeRow old s st r row = IsAsLate st (pos 0) row → ReadsAlike old s r
