-- Nodes and a table of decisions that are kept for a revision.
use Rattle.std.specs.Prelude.{◌≡◌, ◌≢◌, ℕ, ◌≤◌, Bool, true, false, List, ◌∷◌, Some}
use Rattle.tmm_model.specs.declared.premise.Edit.{Edit}
use Rattle.tmm_model.specs.Edits.{next_list}
use Rattle.tmm_model.specs.Maps.{built}
use Rattle.tmm_model.specs.Moments.{Moment}
use Rattle.list_theory.specs.WellNamed.{IsSound}
use Rattle.tmm_model.specs.Standing.{Standing}
use Rattle.belief_theory.specs.KeptLists.{last_horizon}
use Rattle.dist_net.specs.Net.{Net}
use Rattle.spots.specs.Forest.{Forest, Member, member, moment, moment_at}
use Rattle.spots.specs.Growing.{MayEnter}
use Rattle.undo_rows.specs.Changes.{Logged, present}
use Rattle.undo_rows.specs.Tables.{Table}
use Rattle.decision_rows.specs.Decisions.{Decides}
use Rattle.decision_rows.specs.declared.row.Pair.{Pair}
use Rattle.decision_rows.specs.declared.row.Decision.{Decision}
use Rattle.revisions.specs.Maps.{revision}
use Rattle.joined.specs.Netted.{IsNetted}
use Rattle.joined.specs.Rows.{Row, Rows, rows_in, fires_by}
use Rattle.joined.specs.Turning.{effect_of, IsDueFirst, IsFound}

-- nodes and table stand for the revision that the edit asks for, of which these decisions were made
pub record IsKeptBy (old : Standing) (edit : Edit) (net : Net) (f : Forest) (table : Table Pair 8) (name : ℕ → List ℕ) (waits : ℕ → Bool) (taken : List (Moment × List ℕ)) : Type 0 where
  pub sound : IsSound old
  pub sound_after : IsSound (next_list old edit)
  pub netted : IsNetted old (next_list old edit) net f (rows_in table name waits) taken

-- all wait that did but x
pub record WaitsNoMore (old new : ℕ → Bool) (x : ℕ) : Type 0 where
  pub gone : new x ≡ false
  pub others : (i : ℕ) → i ≢ x → new i ≡ old i

-- **Where a rule fires as before, the turn is done once its row keeps what was decided**, and waits
-- no more.
abbrev pub SameDecisionsKeep : Type 0
SameDecisionsKeep =
    (old : Standing) (edit : Edit) (net : Net) (f : Forest) (rows after : Logged Pair 8) (name : ℕ → List ℕ) (waits waits_after : ℕ → Bool)
    (taken : List (Moment × List ℕ)) (x : ℕ) (p : Row) (found : Decision)
    → IsKeptBy old edit net f (present rows) name waits taken
    → IsDueFirst (revision (built old) (built (next_list old edit))) f (rows_in (present rows) name waits) x p
    → IsFound (revision (built old) (built (next_list old edit))) f p found → fires_by found ≡ fires_by p.found
    → Decides rows after x found → WaitsNoMore waits waits_after x
    → IsKeptBy old edit net f (present after) name waits_after ((moment_at f p.trigger, p.rule) ∷ taken)

-- **What fires now and did not may enter**: there is room for it, and no node is of it yet.
abbrev pub EffectsMayEnter : Type 0
EffectsMayEnter =
    (old : Standing) (edit : Edit) (net : Net) (f : Forest) (rows : Rows) (taken : List (Moment × List ℕ)) (x : ℕ) (p : Row) (found : Decision)
    → IsSound old → IsSound (next_list old edit) → (next_list old edit).horizon ≤ last_horizon
    → IsNetted old (next_list old edit) net f rows taken → rows x ≡ Some p
    → IsFound (revision (built old) (built (next_list old edit))) f p found
    → fires_by found ≡ true → fires_by p.found ≡ false
    → MayEnter (next_list old edit) f p.trigger p.rule

-- **The effect of what fired is there**, to be withdrawn where it fires no more.
abbrev pub EffectsAreThere : Type 0
EffectsAreThere =
    (old : Standing) (edit : Edit) (net : Net) (f : Forest) (rows : Rows) (taken : List (Moment × List ℕ)) (x : ℕ) (p : Row)
    → IsNetted old (next_list old edit) net f rows taken → rows x ≡ Some p → fires_by p.found ≡ true
    → (y : ℕ) × (m : Member) × (member f y ≡ Some m) × (moment m ≡ effect_of f p)
