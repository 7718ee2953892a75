-- Rows on the lists of classes: those that may read a node.
use Rattle.std.specs.Prelude.{◌≡◌, ◌↔◌, ◌⊎◌, ℕ, ◌+◌, ◌<◌, ◌≤◌, true, List, map, length, Option, Some}
use Rattle.tmm_model.specs.Beliefs.{class_of}
use Rattle.tmm_model.specs.Moments.{read_by, rule_of}
use Rattle.tmm_model.specs.Standing.{Standing}
use Rattle.net_theory.specs.Represents.{Names}
use Rattle.spots.specs.Forest.{Member, moment}
use Rattle.spots.specs.OfLists.{IsMemberOf}
use Rattle.row_links.specs.Lists.{IsOn}
use Rattle.undo_rows.specs.declared.row.Row.{Row as TableRow}
use Rattle.undo_rows.specs.Changes.{Logged, present}
use Rattle.undo_rows.specs.Tables.{Table, AreListed}
use Rattle.decision_rows.specs.Decisions.{classes_in, heads_of}
use Rattle.decision_rows.specs.declared.row.Pair.{Pair}
use Rattle.revisions.specs.Maps.{watches}
use Rattle.joined.specs.Gaps.{reads_rival}

-- no two classes have one number
abbrev pub AreNumbered : (List ℕ → Option ℕ) → Type 0
AreNumbered number = (c d : List ℕ) (k : ℕ) → number c ≡ Some k → number d ≡ Some k → c ≡ d

-- the row stands under the numbers of the classes of what its rule reads
pub record IsUnderClasses (s : Standing) (name : ℕ → List ℕ) (number : List ℕ → Option ℕ) (r : TableRow Pair 8) : Type 0 where
  pub classes : List ℕ
  pub few : length classes ≤ 6
  pub numbers : map (λ fact. number (class_of s fact)) (read_by (rule_of s (name r.value.rule))) ≡ map Some classes
  pub heads : r.heads ≡ heads_of r.value.trigger r.value.rule (classes_in classes)

-- the row is on the list of the class of this number, for some antecedent or exception
abbrev pub IsListedUnder : Table Pair 8 → ℕ → ℕ → Type 0
IsListedUnder t k i = (place : ℕ) × (place < 6) × IsOn (t.list (place + 2) k) i

-- **A row reads a node exactly where it is on a list of the node's class**, or its rule reads what
-- contradicts the node's fact.
abbrev pub ReadersAreListed : Type 0
ReadersAreListed =
    (s : Standing) (names : Names) (m : Member) (rows : Logged Pair 8) (name : ℕ → List ℕ) (number : List ℕ → Option ℕ)
    (class : List ℕ) (k i : ℕ) (r : TableRow Pair 8)
    → IsMemberOf s names m → m.class ≡ Some class → number class ≡ Some k → AreNumbered number
    → AreListed (present rows) → (present rows).row i ≡ Some r → IsUnderClasses s name number r
    → (watches s (name r.value.rule) (moment m) ≡ true) ↔ (IsListedUnder (present rows) k i ⊎ (reads_rival s (name r.value.rule) m.what ≡ true))

-- **A row is on the lists of its trigger and of its rule**, and on no other of these two families.
abbrev pub PairsAreListed : Type 0
PairsAreListed =
    (rows : Logged Pair 8) (i h : ℕ) (r : TableRow Pair 8) (classes : List (Option ℕ))
    → AreListed (present rows) → (present rows).row i ≡ Some r → r.heads ≡ heads_of r.value.trigger r.value.rule classes
    → (IsOn ((present rows).list 0 h) i ↔ (r.value.trigger ≡ h)) × (IsOn ((present rows).list 1 h) i ↔ (r.value.rule ≡ h))
