-- From the beginning of a revision to where no row waits.
use Rattle.std.specs.Prelude.{◌≡◌, ℕ, ◌+◌, ◌≤◌, min, List, [], length, None}
use Rattle.tmm_model.specs.declared.premise.Edit.{Edit}
use Rattle.tmm_model.specs.declared.refusal.Stop.{Stop}
use Rattle.tmm_model.specs.Answers.{size}
use Rattle.tmm_model.specs.Edits.{next_list}
use Rattle.tmm_model.specs.Maps.{built}
use Rattle.tmm_model.specs.Moments.{Moment}
use Rattle.tmm_model.specs.Standing.{Standing}
use Rattle.belief_theory.specs.Touched.{touched}
use Rattle.dist_net.specs.Net.{Net}
use Rattle.occ_tree.specs.Places.{forest}
use Rattle.projection.specs.Queues.{IsTooLarge}
use Rattle.revisions.specs.Counted.{changed}
use Rattle.joined.specs.Netted.{IsCurrent}
use Rattle.joined.specs.Telling.{TellsAll}
use Rattle.belief_table.specs.declared.state.Beliefs.{Beliefs}
use Rattle.belief_turns.specs.declared.told.Told.{Told}
use Rattle.belief_turns.specs.Telling.{ins, outs, IsWeighed, IsToldBy}
use Rattle.belief_turns.specs.Turning.{rows_of, IsFit, IsUnderway}
use Rattle.belief_table.specs.Waiting.{dates_in}

-- so many decisions counted, on from those before, up to the greatest count
abbrev pub counted : ℕ → ℕ → ℕ
counted before made = min (before + made) 18446744073709551615

-- nodes and rows stand for the revision that the edit asks for, of which no decision is made yet,
-- and what entered and left is told
pub record Begins (old : Standing) (edit : Edit) (net : Net) (b : Beliefs) (told : Told) : Type 0 where
  pub underway : IsUnderway old edit net b []
  pub tells : IsToldBy old edit b told

-- whatever edit leads to the list, if its revision began so
abbrev pub IfBegun : Standing → Net → Beliefs → Told → (Standing → Edit → Type 0) → Type 0
IfBegun s net b told P = (old : Standing) (edit : Edit) → next_list old edit ≡ s → Begins old edit net b told → P old edit

-- nodes and rows stand for the revision, what entered and left so far is told, and the decisions
-- that were made are counted
pub record IsSoFar (net : Net) (b : Beliefs) (told : Told) (before count : ℕ) (old : Standing) (edit : Edit) : Type 0 where
  pub taken : List (Moment × List ℕ)
  pub underway : IsUnderway old edit net b taken
  pub tells : IsToldBy old edit b told
  pub counts : count ≡ counted before (length taken)

-- no more decisions are counted than the edit touches
abbrev pub IsCountedIn : ℕ → ℕ → Standing → Edit → Type 0
IsCountedIn before count old edit = count ≤ counted before (touched old (next_list old edit))

-- **Nodes and rows are those of the list after the edit**, what changed is told, and all decisions
-- that changed are counted.
pub record IsSettled (net : Net) (b : Beliefs) (told : Told) (before count : ℕ) (old : Standing) (edit : Edit) : Type 0 where
  pub current : IsCurrent (next_list old edit) net (forest b.tree) (rows_of b)
  pub tells : TellsAll old (next_list old edit) (ins told) (outs told)
  pub least : counted before (changed old (next_list old edit)) ≤ count

-- nodes and rows fit the list, no row waits, and what entered is told with its dates and its weight
pub record IsAtRest (s : Standing) (net : Net) (b : Beliefs) (told : Told) : Type 0 where
  pub fit : IsFit s net b
  pub none_waits : (i : ℕ) → dates_in b.decisions.waiting i ≡ None
  pub weighed : IsWeighed s told

-- the call stops for want of memory, or as the map of the list after the edit is too large
abbrev pub StopsFor : Stop → Standing → Edit → Type 0
StopsFor stop old edit = IsTooLarge (size (built (next_list old edit))) stop
