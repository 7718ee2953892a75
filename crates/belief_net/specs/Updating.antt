-- An update: nodes and rows of the list before an edit become those of the list after it.
use Rattle.std.specs.Prelude.{◌≡◌, ◌⊎◌, ℕ, ◌≤◌, List, [], Option, None, MatchOption}
use Rattle.tmm_model.specs.declared.premise.Edit.{Edit}
use Rattle.tmm_model.specs.declared.premise.Edit.TheVariants.{Horizon}
use Rattle.tmm_model.specs.declared.premise.Premise.{Premise}
use Rattle.tmm_model.specs.Beliefs.{roots}
use Rattle.tmm_model.specs.Edits.{next_list}
use Rattle.tmm_model.specs.Standing.{Standing, points_in, name_of}
use Rattle.list_theory.proofs.Elements.{In}
use Rattle.premise_list.specs.States.{States}
use Rattle.belief_theory.specs.KeptLists.{last_horizon}
use Rattle.belief_theory.specs.Touched.{touched}
use Rattle.dist_net.specs.Net.{Net, Nets}
use Rattle.net_theory.specs.Fits.{IsNetOf}
use Rattle.net_theory.specs.KeptNumbers.{PointsKeepNumbers}
use Rattle.spots.specs.Forest.{IsNoRoot}
use Rattle.undo_rows.specs.declared.row.Row.{Row as TableRow}
use Rattle.undo_rows.specs.Changes.{present as rows_now, committed as rows_then}
use Rattle.decision_rows.specs.declared.row.Pair.{Pair}
use Rattle.occ_tree.specs.Places.{forest}
use Rattle.occ_tree.specs.Standing.{present, committed}
use Rattle.revisions.specs.Counted.{changed}
use Rattle.list_theory.specs.LeftOut.{IsLeftOut}
use Rattle.joined.specs.Netted.{IsCurrent}
use Rattle.joined.specs.Telling.{TellsAll}
use Rattle.belief_table.specs.declared.state.Beliefs.{Beliefs}
use Rattle.belief_turns.specs.declared.told.Told.{Told}
use Rattle.belief_net.specs.Beginning.{added_by, EntersAdded}
use Rattle.marking.specs.Contradicted.{ReadsUnlike, ReadsAlike}
use Rattle.belief_table.specs.Decided.{KeepsLast, rule_in}
use Rattle.belief_table.specs.LastCommit.{KeepLast}
use Rattle.marking.specs.Horizons.{IsDueBetween}
use Rattle.belief_net.specs.KindEvents.{FindsOthers}
use Rattle.belief_net.specs.MarkLaws.{added_by as name_added}
use Rattle.belief_turns.specs.Settling.{counted, IsAtRest}
use Rattle.belief_turns.specs.Telling.{ins, outs}
use Rattle.marking.specs.Woken.{IsRowMoved}
use Rattle.belief_turns.specs.Turning.{rows_of, IsFit}
use Rattle.belief_table.specs.Waiting.{dates_in}
use Rattle.marking.specs.Woken.{IsRowAtRest}

-- ---- what an update asks for

-- Nodes and rows are those of the list, no row waits, and all is as at the last commit.
pub record IsKept (s : Standing) (net : Net) (b : Beliefs) : Type 0 where
  pub fit : IsFit s net b
  pub current : IsCurrent s net (forest b.tree) (rows_of b)
  pub none_waits : (i : ℕ) → dates_in b.decisions.waiting i ≡ None
  pub tree : committed b.tree ≡ present b.tree
  pub rows : rows_then b.decisions.rows ≡ rows_now b.decisions.rows

-- The edit is made of list and network, and not committed: points that stay keep their numbers, and
-- these names are left out.
pub record IsPending (lists : States) (nets : Nets) (edit : Edit) (erased : List (List ℕ)) : Type 0 where
  pub list : lists.present ≡ next_list lists.committed edit
  pub network : IsNetOf lists.present nets.present
  pub numbers : PointsKeepNumbers (points_in lists.present.premises) nets.committed.names nets.present.names
  pub left_out : IsLeftOut lists.committed lists.present erased
  pub horizon : lists.present.horizon ≤ last_horizon

-- ---- the steps

-- A premise that is added stands in the list, and no node is of its name. Where it is a rule, the
-- others on its kind have their rows.
pub record MayBeAdded (s : Standing) (b : Beliefs) (premise : Premise) : Type 0 where
  pub stands : In premise s.premises
  pub new : IsNoRoot (forest b.tree) (name_of premise)
  pub others : FindsOthers s premise b

-- what the edit adds may be added, if it adds something
abbrev pub MayAdd : Standing → Edit → Beliefs → Type 0
MayAdd s edit b = MatchOption (added_by edit) (Unit {0}) (MayBeAdded s b)

-- what the edit adds has entered: first a root, and then the rows of a rule
pub record Entered (s : Standing) (net : Net) (edit : Edit) (old new : Beliefs) : Type 0 where
  pub mid : Beliefs
  pub enters : EntersAdded s net (added_by edit) old mid new
  pub fit_mid : IsFit s net mid
  pub fit : IsFit s net new
  pub names_mid : KeepsLast old.decisions mid.decisions
  pub names : KeepsLast mid.decisions new.decisions

-- the row is changed by an edit that adds a premise of this name, or none: other facts contradict
-- what its rule reads, or points moved on which it depends
abbrev pub IsChanged : Option (List ℕ) → Standing → Standing → Nets → Beliefs → TableRow Pair 8 → Type 0
IsChanged added old s nets b row = ReadsUnlike old s (rule_in b.decisions row) ⊎ IsRowMoved nets added s (forest b.tree) b.decisions row

-- it is not: the same facts contradict what its rule reads, and points that moved let it rest
abbrev pub IsUnchanged : Option (List ℕ) → Standing → Standing → Nets → Beliefs → TableRow Pair 8 → Type 0
IsUnchanged added old s nets b row = ReadsAlike old s (rule_in b.decisions row) × IsRowAtRest nets added old s (forest b.tree) b.decisions row

-- The edit touches the row, beside what left and entered: another horizon brings its effect into
-- time or puts it beyond; another edit changes it.
abbrev pub IsTouchedBy : Edit → Standing → Standing → Nets → ℕ → Beliefs → TableRow Pair 8 → Type 0
IsTouchedBy (Horizon n) old s nets before b row = IsDueBetween s (present b.tree) b.decisions before s.horizon row
IsTouchedBy edit old s nets before b row = IsChanged (name_added edit) old s nets b row

-- It leaves the row as it is, beside what left and entered: another horizon does not touch it, and
-- another edit does not change it.
abbrev pub IsLeftBy : Edit → Standing → Standing → Nets → ℕ → Beliefs → TableRow Pair 8 → Type 0
IsLeftBy (Horizon n) old s nets before b row = IsDueBetween s (present b.tree) b.decisions before s.horizon row → ⊥
IsLeftBy edit old s nets before b row = IsUnchanged (name_added edit) old s nets b row

-- ---- what an update does

-- **Nodes and rows are those of the list after the edit**, and none waits. What changed is told,
-- and at least the decisions that changed are counted.
pub record IsUpdated (lists : States) (nets : Nets) (b : Beliefs) (before count : ℕ) (told : Told) : Type 0 where
  pub rests : IsAtRest lists.present nets.present b told
  pub current : IsCurrent lists.present nets.present (forest b.tree) (rows_of b)
  pub tells : TellsAll lists.committed lists.present (ins told) (outs told)
  pub least : counted before (changed lists.committed lists.present) ≤ count

-- no more decisions are counted than the edit touches
abbrev pub IsCountedWithin : States → ℕ → ℕ → Type 0
IsCountedWithin lists before count = count ≤ counted before (touched lists.committed lists.present)

-- ---- before all updates

-- it is kept of every list in which nothing is declared to occur
abbrev pub KeepsNothing : Beliefs → Type 0
KeepsNothing b = (s : Standing) (net : Net) → IsNetOf s net → roots s ≡ [] → IsKept s net b

-- ---- what follows an update

-- nodes and rows of a list, of which none waits, are kept once they are committed
abbrev pub CommitsKept : Beliefs → Beliefs → Type 0
CommitsKept old new =
    (s : Standing) (net : Net) → IsFit s net old → IsCurrent s net (forest old.tree) (rows_of old) → ((i : ℕ) → dates_in old.decisions.waiting i ≡ None) → IsKept s net new

-- what was kept is so again, if what a rollback leads back to stayed
abbrev pub LeadsBack : Beliefs → Beliefs → Type 0
LeadsBack old new = (s : Standing) (net : Net) (b : Beliefs) → IsKept s net b → KeepLast b old → IsKept s net new
