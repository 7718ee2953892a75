-- The numbers under which the rows of a rule are listed.
use Rattle.std.specs.Prelude.{◌≡◌, ℕ, ◌≤◌, List, length, map, Some}
use Rattle.tmm_model.specs.Beliefs.{class_of}
use Rattle.tmm_model.specs.Moments.{read_by, rule_of}
use Rattle.tmm_model.specs.Standing.{Standing}
use Rattle.occ_tree.specs.Classes.{place_in, HaveMore}
use Rattle.belief_turns.specs.declared.rows.Heads.{Heads}
use Rattle.belief_table.specs.declared.state.Decisions.{Decisions}
use Rattle.belief_table.specs.Decided.{AreUnder}

-- they are the numbers of the rule of this name, and of the classes of what it reads
pub record AreHeads (s : Standing) (rule : List ℕ) (d : Decisions) (heads : Heads) : Type 0 where
  pub number : place_in d.rules rule ≡ Some heads.rule
  pub numbers : map (λ fact. place_in d.classes (class_of s fact)) (read_by (rule_of s rule)) ≡ map Some heads.classes.items
  pub few : length heads.classes.items ≤ 6

-- what is told of the rule holds, and all rows are under their classes, where these are the numbers
-- of a rule
abbrev pub AddsUnder : (List ℕ → Type 0) → Heads → Decisions → Decisions → Type 0
AddsUnder told heads old new = (s : Standing) (rule : List ℕ) → AreUnder s old → AreHeads s rule old heads → told rule × AreUnder s new

-- names have the numbers that they had
pub record HasNamesOf (old new : Decisions) : Type 0 where
  pub rules : new.rules ≡ old.rules
  pub classes : new.classes ≡ old.classes

-- more names have numbers, and all else stays
pub record NamesMore (old new : Decisions) : Type 0 where
  pub rules : HaveMore old.rules new.rules
  pub classes : HaveMore old.classes new.classes
  pub rows : new.rows ≡ old.rows
  pub waiting : new.waiting ≡ old.waiting
