-- Marking: which rows wait in a turn, by the lists of the classes of which tokens moved, and by the
-- facts that contradict theirs.
use Rattle.std.specs.Prelude.{◌≡◌, ◌↔◌, ◌⊎◌, ℕ, ℤ, ◌≤ℤ◌, Bool, true, false, List, Option, Some}
use Rattle.tmm_model.specs.declared.premise.Edit.{Edit}
use Rattle.tmm_model.specs.Edits.{next_list}
use Rattle.tmm_model.specs.Maps.{built}
use Rattle.tmm_model.specs.Standing.{Standing}
use Rattle.list_theory.proofs.Elements.{In}
use Rattle.dist_net.specs.Net.{Net}
use Rattle.spots.specs.Forest.{Forest, Member, moment, moment_at}
use Rattle.spots.specs.OfLists.{IsForestOf, IsMemberOf}
use Rattle.undo_rows.specs.declared.row.Row.{Row as TableRow}
use Rattle.undo_rows.specs.Changes.{Logged, present}
use Rattle.undo_rows.specs.Tables.{Table, AreListed}
use Rattle.decision_rows.specs.declared.row.Pair.{Pair}
use Rattle.decision_rows.specs.declared.row.Decision.{Decision}
use Rattle.revisions.specs.Maps.{revision}
use Rattle.revisions.specs.Revisions.{Revision}
use Rattle.joined.specs.Gaps.{reads_rival}
use Rattle.joined.specs.Listed.{AreNumbered, IsUnderClasses, IsListedUnder}
use Rattle.joined.specs.Rows.{Row}
use Rattle.joined.specs.Sparing.{IsSparedAt, StaysNode}
use Rattle.joined.specs.Turning.{Moved, TreeTurns, IsMarkedRow}

-- a mark: the number of a class and a fact, a date from which on decisions that read this class, or
-- what contradicts the fact, are to be made again, and at which events, by their nodes, it spares
-- those that read the class alone
pub record Mark : Type 0 where
  pub class : ℕ
  pub fact : List ℕ
  pub from : ℤ
  pub spares : ℕ → Bool

-- The mark is that of the token that this node is, where nodes f become nodes g. It spares no event
-- but where that token bears on no decision by its class.
pub record IsMarkOf (r : Revision) (net : Net) (number : List ℕ → Option ℕ) (f g : Forest) (m : Member) (mark : Mark) : Type 0 where
  pub class : List ℕ
  pub has_class : m.class ≡ Some class
  pub numbered : number class ≡ Some mark.class
  pub fact : mark.fact ≡ m.what
  pub early : mark.from ≡ r.early (moment m)
  pub spared : (t : ℕ) → mark.spares t ≡ true → IsSparedAt net f g (moment m) t

-- the marks are those of the tokens that move in the turn
pub record AreMarksOf (r : Revision) (s : Standing) (net : Net) (number : List ℕ → Option ℕ) (f g : Forest) (p : Row) (found : Decision) (marks : List Mark) : Type 0 where
  pub own : (mark : Mark) → In mark marks → (m : Member) × IsMemberOf s net.names m × Moved f p found (moment m) × IsMarkOf r net number f g m mark
  pub all : (m : Member) (class : List ℕ) → IsMemberOf s net.names m → Moved f p found (moment m) → m.class ≡ Some class → (mark : Mark) × In mark marks × IsMarkOf r net number f g m mark

-- the mark asks for the row of number i, of this rule at the event of node x: it is on a list of
-- the class and the event is not spared, or its rule reads what contradicts the fact
abbrev pub AsksFor : Standing → Table Pair 8 → Mark → ℕ → ℕ → List ℕ → Type 0
AsksFor s t mark i x rule = (IsListedUnder t mark.class i × (mark.spares x ≡ false)) ⊎ (reads_rival s rule mark.fact ≡ true)

-- a mark is for the row q of number i: it asks for it, and its event is no earlier
abbrev pub IsMarkedBy : Revision → Standing → Forest → Table Pair 8 → List Mark → ℕ → Row → Type 0
IsMarkedBy r s g t marks i q =
    (mark : Mark) × In mark marks × (mark.from ≤ℤ r.early (moment_at g q.trigger)) × AsksFor s t mark i q.trigger q.rule

-- **So rows are marked as a turn asks**: where besides those that waited exactly those wait for
-- which there is a mark.
abbrev pub ClassMarksMark : Type 0
ClassMarksMark =
    (old : Standing) (edit : Edit) (net : Net) (f g : Forest) (p : Row) (found : Decision)
    (rows : Logged Pair 8) (name : ℕ → List ℕ) (number : List ℕ → Option ℕ) (marks : List Mark) (i : ℕ) (row : TableRow Pair 8) (o q : Row)
    → IsForestOf (next_list old edit) net f → IsForestOf (next_list old edit) net g → TreeTurns (next_list old edit) net.names f g p found
    → StaysNode f g q.trigger → AreNumbered number → AreListed (present rows)
    → (present rows).row i ≡ Some row → IsUnderClasses (next_list old edit) name number row → q.rule ≡ name row.value.rule
    → AreMarksOf (revision (built old) (built (next_list old edit))) (next_list old edit) net number f g p found marks
    → (q.waits ≡ true) ↔ ((o.waits ≡ true) ⊎ IsMarkedBy (revision (built old) (built (next_list old edit))) (next_list old edit) g (present rows) marks i q)
    → IsMarkedRow (revision (built old) (built (next_list old edit))) f g p found o q
