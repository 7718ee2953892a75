-- A turn in which nodes enter or go: rows come, go, and wait for marks.
use Rattle.std.specs.Prelude.{◌≡◌, ◌↔◌, ◌⊎◌, ℕ, ℤ, ◌≤ℤ◌, ◌<ℤ◌, true, List, Option, Some, None, IsSome}
use Rattle.std.specs.List.{Contains}
use Rattle.tmm_model.specs.Beliefs.{rules_at}
use Rattle.tmm_model.specs.Moments.{Moment, early}
use Rattle.tmm_model.specs.Standing.{Standing, far_in}
use Rattle.list_theory.proofs.Elements.{In}
use Rattle.dist_net.specs.Net.{Net}
use Rattle.spots.specs.Forest.{Forest, Member, IsLive, moment, moment_at}
use Rattle.spots.specs.OfLists.{IsMemberOf}
use Rattle.undo_rows.specs.declared.row.Row.{Row as TableRow}
use Rattle.undo_rows.specs.Tables.{Table, AreListed}
use Rattle.decision_rows.specs.declared.row.Pair.{Pair}
use Rattle.decision_rows.specs.declared.row.Decision.TheVariants.{Beyond}
use Rattle.occ_tree.specs.Classes.{place_in}
use Rattle.occ_tree.specs.Places.{forest}
use Rattle.joined.specs.Marking.{Mark, AsksFor}
use Rattle.joined.specs.Rows.{Row, as_row}
use Rattle.joined.specs.Sparing.{IsSparedAt}
use Rattle.joined.specs.Turning.{Moved, TreeTurns}
use Rattle.belief_turns.specs.declared.deciding.Due.{Due}
use Rattle.belief_table.specs.declared.state.Beliefs.{Beliefs}
use Rattle.belief_table.specs.declared.state.Decisions.{Decisions}
use Rattle.belief_table.specs.Decided.{table_of, rule_in, KeepsLast}
use Rattle.belief_table.specs.Numbers.{name_in}
use Rattle.belief_turns.specs.Turning.{IsFit, IsDecided}
use Rattle.belief_table.specs.Waiting.{waits_in}

-- the earliest date of an occurrence
abbrev pub date_at : Standing → Moment → ℤ
date_at s = early s (far_in s.premises)

-- ---- marks

-- the mark is that of the token that this node is, where nodes f become nodes g, and spares only
-- where that bears on no decision by its class
pub record IsMarkAt (s : Standing) (net : Net) (number : List ℕ → Option ℕ) (f g : Forest) (m : Member) (mark : Mark) : Type 0 where
  pub class : List ℕ
  pub has_class : m.class ≡ Some class
  pub numbered : number class ≡ Some mark.class
  pub fact : mark.fact ≡ m.what
  pub from : mark.from ≡ date_at s (moment m)
  pub spared : (t : ℕ) → mark.spares t ≡ true → IsSparedAt net f g (moment m) t

-- the marks are those of the tokens that moved
pub record AreMarksFor (s : Standing) (net : Net) (number : List ℕ → Option ℕ) (f g : Forest) (moved : Moment → Type 0) (marks : List Mark) : Type 0 where
  pub own : (mark : Mark) → In mark marks → (m : Member) × IsMemberOf s net.names m × moved (moment m) × IsMarkAt s net number f g m mark
  pub all : (m : Member) (class : List ℕ) → IsMemberOf s net.names m → moved (moment m) → m.class ≡ Some class → (mark : Mark) × In mark marks × IsMarkAt s net number f g m mark

-- a mark is for the row of number i, of this rule: it asks for it, and its event is no earlier
abbrev pub IsMarkedAt : Standing → Forest → Table Pair 8 → List Mark → ℕ → TableRow Pair 8 → List ℕ → Type 0
IsMarkedAt s g t marks i row rule =
    (mark : Mark) × In mark marks × (mark.from ≤ℤ date_at s (moment_at g row.value.trigger)) × AsksFor s t mark i row.value.trigger rule

-- ---- rows

-- the row was there, and waits if it did or if a mark is for it
pub record IsKeptRow (s : Standing) (g : Forest) (marks : List Mark) (old new : Decisions) (i : ℕ) (row : TableRow Pair 8) : Type 0 where
  pub there : (table_of old).row i ≡ Some row
  pub waits : (waits_in new.waiting i ≡ true) ↔ ((waits_in old.waiting i ≡ true) ⊎ IsMarkedAt s g (table_of old) marks i row (rule_in new row))

-- the row is new, at an event that was not among the nodes f; nothing is decided of it, and it
-- waits
pub record IsComing (f : Forest) (old new : Decisions) (i : ℕ) (row : TableRow Pair 8) : Type 0 where
  pub free : (table_of old).row i ≡ None
  pub event : IsLive f row.value.trigger → ⊥
  pub undecided : row.value.decision ≡ Beyond
  pub waits : waits_in new.waiting i ≡ true

-- What becomes of rows where nodes f become nodes g: those of nodes that went are gone, and each
-- node that entered has one for each rule on it.
pub record Moves (s : Standing) (f g : Forest) (marks : List Mark) (old new : Decisions) : Type 0 where
  pub listed : AreListed (table_of old)
  pub last : KeepsLast old new
  pub each : (i : ℕ) (row : TableRow Pair 8) → (table_of new).row i ≡ Some row → IsKeptRow s g marks old new i row ⊎ IsComing f old new i row
  pub stay : (i : ℕ) (row : TableRow Pair 8) → (table_of old).row i ≡ Some row → IsLive g row.value.trigger → IsSome ((table_of new).row i)
  pub stands : (i : ℕ) (row : TableRow Pair 8) → (table_of new).row i ≡ Some row → (IsLive f row.value.trigger → ⊥)
      → Contains (rules_at s (moment_at g row.value.trigger)) (rule_in new row)
  pub all : (y : ℕ) (rule : List ℕ) → IsLive g y → (IsLive f y → ⊥) → Contains (rules_at s (moment_at g y)) rule
      → (i : ℕ) × (row : TableRow Pair 8) × ((table_of new).row i ≡ Some row) × (row.value.trigger ≡ y) × (rule_in new row ≡ rule)
  pub apart : (i j : ℕ) (row other : TableRow Pair 8) → (table_of new).row i ≡ Some row → (table_of new).row j ≡ Some other
      → (IsLive f row.value.trigger → ⊥) → row.value.trigger ≡ other.value.trigger → rule_in new row ≡ rule_in new other → i ≡ j

-- ---- the turn

-- the row that was decided, as it was before
abbrev pub row_due : Beliefs → ℕ → TableRow Pair 8 → Row
row_due b i row = as_row (name_in b.decisions.rules) (waits_in b.decisions.waiting i) row

-- A turn from b to e: the row due first is decided, in c; then nodes enter or go, and rows follow.
-- What moves is later than the event of the row.
pub record TurnsOn (s : Standing) (net : Net) (b c e : Beliefs) (due : Due) : Type 0 where
  pub fit : IsFit s net b
  pub decided : IsDecided s b c due
  pub fit_after : IsFit s net e
  pub tree : TreeTurns s net.names (forest b.tree) (forest e.tree) (row_due b due.row decided.row) due.found
  pub marks : List Mark
  pub moves : Moves s (forest b.tree) (forest e.tree) marks c.decisions e.decisions
  pub are : AreMarksFor s net (place_in e.decisions.classes) (forest b.tree) (forest e.tree) (Moved (forest b.tree) (row_due b due.row decided.row) due.found) marks
  pub later : (mark : Mark) → In mark marks → date_at s (moment_at (forest b.tree) due.trigger) <ℤ mark.from
