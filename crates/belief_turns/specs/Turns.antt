-- A turn as one call: the row that is due first is decided, and what follows of it is done and
-- told.
use Rattle.std.specs.Prelude.{◌≡◌, ◌⊎◌, ℕ, ℤ, ◌+◌, ◌≤ℤ◌, min, Bool, true, false, List, ◌∷◌, Some, None}
use Rattle.tmm_model.specs.declared.premise.Edit.{Edit}
use Rattle.tmm_model.specs.declared.refusal.Stop.{Stop}
use Rattle.tmm_model.specs.Answers.{size}
use Rattle.tmm_model.specs.Edits.{next_list}
use Rattle.tmm_model.specs.Maps.{built}
use Rattle.tmm_model.specs.Moments.{Moment, After}
use Rattle.tmm_model.specs.Standing.{Standing}
use Rattle.dist_net.specs.Net.{Net}
use Rattle.row_links.specs.Lists.{AreOnce}
use Rattle.spots.specs.Forest.{Member, member, moment, moment_at}
use Rattle.occ_tree.specs.Places.{forest}
use Rattle.occ_tree.specs.Standing.{Kept}
use Rattle.projection.specs.Queues.{IsTooLarge}
use Rattle.belief_turns.specs.declared.deciding.Due.{Due}
use Rattle.belief_table.specs.declared.state.Beliefs.{Beliefs}
use Rattle.belief_turns.specs.declared.told.Told.{Told}
use Rattle.belief_turns.specs.Leaving.{TakesAway}
use Rattle.belief_turns.specs.Telling.{IsWeighed, IsToldBy, TellsExits}
use Rattle.belief_turns.specs.Turning.{IsFit, IsRevising, IsUnderway, IsDecided}
use Rattle.belief_table.specs.Waiting.{Dates, dates_in}

-- one decision more, up to the greatest count
abbrev pub one_more : ℕ → ℕ
one_more count = min (count + 1) 18446744073709551615

-- some row waits, and no other for an earlier date
abbrev pub IsFirst : Dates → Type 0
IsFirst dates = (i : ℕ) × (date : ℤ) × (dates i ≡ Some date) × ((j : ℕ) (other : ℤ) → dates j ≡ Some other → date ≤ℤ other)

-- one decision was counted where a row waited, and none where none did
abbrev pub CountsOne : Beliefs → ℕ → ℕ → Type 0
CountsOne b old new = ((new ≡ old) × ((i : ℕ) → dates_in b.decisions.waiting i ≡ None)) ⊎ ((new ≡ one_more old) × IsFirst (dates_in b.decisions.waiting))

-- ---- what follows of a decision

-- b stands for some revision to the list, and c is b with the row that is due first decided
pub record IsAfter (s : Standing) (net : Net) (b c : Beliefs) (due : Due) : Type 0 where
  pub fit : IsFit s net b
  pub revising : IsRevising s net b
  pub decided : IsDecided s b c due

-- the effect of the rule at the event is a node
abbrev pub HasEffect : Kept → ℕ → List ℕ → Type 0
HasEffect tree trigger rule = (x : ℕ) × (m : Member) × (member (forest tree) x ≡ Some m) × (moment m ≡ After (moment_at (forest tree) trigger) rule)

-- that node is gone with all below it, and told
pub record Withdraws (s : Standing) (net : Net) (trigger : ℕ) (rule : List ℕ) (old new : Beliefs) (told told_after : Told) : Type 0 where
  pub number : ℕ
  pub node : Member
  pub here : member (forest old.tree) number ≡ Some node
  pub is : moment node ≡ After (moment_at (forest old.tree) trigger) rule
  pub numbers : List ℕ
  pub takes : TakesAway s net number numbers old new
  pub once : AreOnce numbers
  pub tells : TellsExits old.tree numbers told told_after

-- **A turn**: whatever revision to the list nodes and rows stood for, and told what changed, they
-- do so with this decision made.
pub record TurnsTo (s : Standing) (net : Net) (b e : Beliefs) (told told_after : Told) : Type 0 where
  pub decision : Moment × List ℕ
  pub fit : IsFit s net e
  pub stands : (old : Standing) (edit : Edit) (taken : List (Moment × List ℕ)) → next_list old edit ≡ s → IsUnderway old edit net b taken
      → IsUnderway old edit net e (decision ∷ taken)
  pub tells : (old : Standing) (edit : Edit) (taken : List (Moment × List ℕ)) → next_list old edit ≡ s → IsUnderway old edit net b taken
      → IsToldBy old edit b told → IsToldBy old edit e told_after
  pub weighed : IsWeighed s told → IsWeighed s told_after

-- the turn stops for want of memory, or as the map of the list is too large, if nodes and rows
-- stood for a revision and told what changed
abbrev pub StopsTurn : Standing → Net → Beliefs → Told → Stop → Type 0
StopsTurn s net b told stop =
    (old : Standing) (edit : Edit) (taken : List (Moment × List ℕ)) → next_list old edit ≡ s → IsUnderway old edit net b taken → IsToldBy old edit b told → IsWeighed s told
    → IsTooLarge (size (built s)) stop

-- some beliefs are these, but that the row due first was decided
abbrev pub IsAfterSome : Standing → Net → Beliefs → Due → Type 0
IsAfterSome s net c due = (b : Beliefs) × IsAfter s net b c due

-- the turn is done, whatever the beliefs were before the row was decided
abbrev pub IsTurned : Standing → Net → Beliefs → Beliefs → Due → Told → Told → Type 0
IsTurned s net c e due told told_after = (b : Beliefs) → IsAfter s net b c due → TurnsTo s net b e told told_after

-- the turn stops, whatever they were
abbrev pub IsStopped : Standing → Net → Beliefs → Due → Told → Stop → Type 0
IsStopped s net c due told stop = (b : Beliefs) → IsAfter s net b c due → StopsTurn s net b told stop

-- no row waits, and all stays
pub record Rests (b e : Beliefs) : Type 0 where
  pub tree : e.tree ≡ b.tree
  pub rows : e.decisions.rows ≡ b.decisions.rows
  pub rules : e.decisions.rules ≡ b.decisions.rules
  pub classes : e.decisions.classes ≡ b.decisions.classes
  pub none_waited : (i : ℕ) → dates_in b.decisions.waiting i ≡ None
  pub none_waits : (i : ℕ) → dates_in e.decisions.waiting i ≡ None

-- the turn is done, and one decision is counted; or no row waits, and all stays
abbrev pub TurnsOrRests : Standing → Net → Beliefs → Beliefs → Told → Told → ℕ → ℕ → Bool → Type 0
TurnsOrRests s net b e told told_after count count_after true = TurnsTo s net b e told told_after × (count_after ≡ one_more count)
TurnsOrRests s net b e told told_after count count_after false = Rests b e × (told_after ≡ told) × (count_after ≡ count)
