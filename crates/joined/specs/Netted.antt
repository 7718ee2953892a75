-- How nodes and rows stand for a revision.
use Rattle.std.specs.Prelude.{◌≡◌, ℕ, ◌≤◌, ℤ, List, [], length, Some, None}
use Rattle.tmm_model.specs.declared.premise.Edit.{Edit}
use Rattle.belief_theory.specs.Outcomes.{Outcome, outcome}
use Rattle.tmm_model.specs.Beliefs.{roots}
use Rattle.tmm_model.specs.Edits.{next_list}
use Rattle.tmm_model.specs.Maps.{built}
use Rattle.tmm_model.specs.Moments.{Moment}
use Rattle.list_theory.specs.WellNamed.{IsSound}
use Rattle.tmm_model.specs.Standing.{Standing, far_in}
use Rattle.belief_theory.specs.Touched.{touched}
use Rattle.dist_net.specs.Net.{Net}
use Rattle.net_theory.specs.Fits.{IsNetOf}
use Rattle.spots.specs.Forest.{Forest, member, moment_at}
use Rattle.spots.specs.OfLists.{IsForestOf, HasOccurrences}
use Rattle.revisions.specs.Counted.{changed}
use Rattle.revisions.specs.Keeping.{IsKeeping}
use Rattle.revisions.specs.Maps.{revision}
use Rattle.joined.specs.Rows.{Row, Rows, decision_of, IsWaiting, NoneWaits, AreRowsOf}

-- **What nodes and rows say of a revision.** Each row has what it keeps of the outcome that was
-- found last.
pub record IsNetted (old new : Standing) (net : Net) (f : Forest) (rows : Rows) (taken : List (Moment × List ℕ)) : Type 0 where
  pub nodes : List Moment
  pub kept : Moment → List ℕ → Outcome
  pub date : ℤ
  pub seen : IsForestOf new net f
  pub holds : HasOccurrences nodes f
  pub keeping : IsKeeping (revision (built old) (built new)) nodes kept (IsWaiting f rows) taken date
  pub rows_are : AreRowsOf new f rows
  pub told : (i : ℕ) (q : Row) → rows i ≡ Some q → q.found ≡ decision_of (kept (moment_at f q.trigger) q.rule)

-- **Nodes and rows are those of the list**: what it believes, and each decision with what is kept
-- of its outcome there.
pub record IsCurrent (s : Standing) (net : Net) (f : Forest) (rows : Rows) : Type 0 where
  pub seen : IsForestOf s net f
  pub holds : HasOccurrences (built s).believed f
  pub rows_are : AreRowsOf s f rows
  pub none_waits : NoneWaits rows
  pub told : (i : ℕ) (q : Row) → rows i ≡ Some q
      → q.found ≡ decision_of (outcome s (far_in s.premises) (built s).believed (moment_at f q.trigger) q.rule)

-- **Where no row waits, nodes and rows are those of the list after the edit.**
abbrev pub NettedAreCurrent : Type 0
NettedAreCurrent =
    (old : Standing) (edit : Edit) (net : Net) (f : Forest) (rows : Rows) (taken : List (Moment × List ℕ))
    → IsSound old → IsSound (next_list old edit)
    → IsNetted old (next_list old edit) net f rows taken → NoneWaits rows
    → IsCurrent (next_list old edit) net f rows

-- **Nodes and rows tell how many decisions are made**: at any time no more than are touched, and in
-- the end all that changed.
abbrev pub NettedAreCounted : Type 0
NettedAreCounted =
    (old : Standing) (edit : Edit) (net : Net) (f : Forest) (rows : Rows) (taken : List (Moment × List ℕ))
    → IsSound old → IsSound (next_list old edit) → IsNetted old (next_list old edit) net f rows taken
    → (length taken ≤ touched old (next_list old edit)) × (NoneWaits rows → changed old (next_list old edit) ≤ length taken)

-- **Where nothing is declared to occur, no nodes and no rows are those of the list.**
abbrev pub NothingIsCurrent : Type 0
NothingIsCurrent =
    (s : Standing) (net : Net) (f : Forest) (rows : Rows) → IsNetOf s net
    → roots s ≡ [] → ((x : ℕ) → member f x ≡ None) → ((i : ℕ) → rows i ≡ None)
    → IsCurrent s net f rows
