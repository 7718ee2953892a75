-- How the loop begins: nodes and rows of the list before are made those of the list after an edit.
use Rattle.std.specs.Prelude.{◌≡◌, ◌⊎◌, ℕ, true, List, Option, Some, None}
use Rattle.std.specs.Option.{option_map_or}
use Rattle.tmm_model.specs.declared.premise.Edit.{Edit}
use Rattle.tmm_model.specs.declared.premise.Edit.TheVariants.{Add, Erase, Horizon, Upgrade}
use Rattle.tmm_model.specs.declared.premise.Premise.{Premise}
use Rattle.tmm_model.specs.Edits.{next_list}
use Rattle.tmm_model.specs.Standing.{Standing}
use Rattle.dist_net.specs.Net.{Net}
use Rattle.spots.specs.Forest.{Forest, Member, member, moment, SameMembers}
use Rattle.spots.specs.OfLists.{IsForestOf}
use Rattle.occ_tree.specs.Places.{forest}
use Rattle.occ_tree.specs.Standing.{present}
use Rattle.revisions.specs.Maps.{watches}
use Rattle.joined.specs.Gaps.{reads_rival}
use Rattle.joined.specs.Netted.{IsCurrent}
use Rattle.joined.specs.Rows.{Row, Rows}
use Rattle.joined.specs.Sparing.{IsSparedAt}
use Rattle.joined.specs.Starting.{NodesBegin, RowsBegin}
use Rattle.joined.specs.Touching.{RivalsStay}
use Rattle.belief_table.specs.declared.erasing.Departed.{Departed}
use Rattle.belief_table.specs.declared.state.Beliefs.{Beliefs}
use Rattle.marking.specs.LeftMarks.{MarksLeft, SayNone}
use Rattle.belief_net.specs.Adding.{StayAll, EntersRoot, EntersRule}
use Rattle.belief_net.specs.Clearing.{IsCleared}
use Rattle.belief_table.specs.Decided.{KeepsLast}
use Rattle.belief_table.specs.Erasing.{ShedsAll}
use Rattle.belief_turns.specs.Turning.{rows_of, IsFit}

-- the premise that the edit adds, if it adds one
abbrev pub added_by : Edit → Option Premise
added_by (Add premise) = Some premise
added_by (Erase name) = None
added_by (Horizon n) = None
added_by Upgrade = None

-- what the premise declares to occur has entered in r, and in n the rows of the rule that it is
abbrev pub EntersAdded : Standing → Net → Option Premise → Beliefs → Beliefs → Beliefs → Type 0
EntersAdded s net None m r n = StayAll m r × StayAll r n
EntersAdded s net (Some premise) m r n = EntersRoot s net premise m r × EntersRule s premise r n

-- The steps from b, which has nodes and rows of the list before: in e those are left that still
-- occur; in c roots have the dates of the new network; in m the rows wait that may read what left;
-- in r and n what the edit adds has entered.
pub record IsBegun (old : Standing) (edit : Edit) (before net : Net) (b e c m r n : Beliefs) (all : Departed) : Type 0 where
  pub fit_before : IsFit old before b
  pub current : IsCurrent old before (forest b.tree) (rows_of b)
  pub sheds : ShedsAll b e all
  pub cleared : IsCleared old (next_list old edit) b e
  pub same_nodes : SameMembers (forest e.tree) (forest c.tree)
  pub same_rows : c.decisions ≡ e.decisions
  pub same_tree : m.tree ≡ c.tree
  pub marks : MarksLeft old (next_list old edit) before (present c.tree) all c.decisions m.decisions
  pub fit : IsFit (next_list old edit) net m
  pub enters : EntersAdded (next_list old edit) net (added_by edit) m r n
  pub fit_root : IsFit (next_list old edit) net r
  pub fit_after : IsFit (next_list old edit) net n
  pub names_root : KeepsLast m.decisions r.decisions
  pub names_after : KeepsLast r.decisions n.decisions

-- the row of this rule is one on which the token of a node bore, which left: its rule watched it,
-- or reads now what contradicts it
abbrev pub IsLeftFrom : Standing → Standing → List ℕ → Member → Type 0
IsLeftFrom old new rule m = (watches old rule (moment m) ≡ true) ⊎ ((class : List ℕ) × (m.class ≡ Some class) × (reads_rival new rule m.what ≡ true))

-- the nodes of f that are nodes of g
abbrev pub those_in : Forest → Forest → Forest
those_in f g x = option_map_or (λ (m : Member). member f x) (member g x) None

-- **The token of a node that left bore on no decision at node t**, by the tokens that stay: no
-- premise of either list says that facts contradict each other, and by the distances before it is
-- spared there.
abbrev pub BoreOnNone : Standing → Standing → Net → Forest → Forest → Member → ℕ → Type 0
BoreOnNone old new before f g m t = SayNone old new × IsSparedAt before f (those_in f g) (moment m) t

-- Every row waits that watches a token that left or entered, where the same facts contradict what
-- its rule reads, but where that left bore on no decision; and no row that was there begins to wait
-- but where it watched one that left, or would, or watches one that entered.
pub record WaitForMoved (old new : Standing) (before : Net) (f g : Forest) (rows after : Rows) : Type 0 where
  pub left : (i x : ℕ) (q : Row) (m : Member) → after i ≡ Some q → member f x ≡ Some m → member g x ≡ None → RivalsStay old new q.rule → watches old q.rule (moment m) ≡ true
      → (q.waits ≡ true) ⊎ BoreOnNone old new before f g m q.trigger
  pub entered : (i x : ℕ) (q : Row) (m : Member) → after i ≡ Some q → member f x ≡ None → member g x ≡ Some m → watches new q.rule (moment m) ≡ true → q.waits ≡ true
  pub only : (i : ℕ) (q : Row) → after i ≡ Some q → q.waits ≡ true → (rows i ≡ None)
      ⊎ (((x : ℕ) × (m : Member) × (member f x ≡ Some m) × (member g x ≡ None) × IsLeftFrom old new q.rule m)
      ⊎ ((x : ℕ) × (m : Member) × (member f x ≡ None) × (member g x ≡ Some m) × (watches new q.rule (moment m) ≡ true)))

-- nodes and rows are made ready for the list after, but for marks of what moved
pub record IsReady (old new : Standing) (before net : Net) (f g : Forest) (rows after : Rows) : Type 0 where
  pub seen : IsForestOf new net g
  pub nodes_begin : NodesBegin new f g
  pub rows_begin : RowsBegin new g rows after
  pub waits : WaitForMoved old new before f g rows after

-- **So begun, nodes and rows are ready for the list after.**
abbrev pub BegunAreReady : Type 0
BegunAreReady =
    (old : Standing) (edit : Edit) (before net : Net) (b e c m r n : Beliefs) (all : Departed)
    → IsBegun old edit before net b e c m r n all
    → IsReady old (next_list old edit) before net (forest b.tree) (forest n.tree) (rows_of b) (rows_of n)
