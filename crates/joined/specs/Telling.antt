-- What is told of the occurrences that enter and leave.
use Rattle.std.specs.Prelude.{◌≡◌, ◌↔◌, ℕ, ◌≤◌, true, false, List, [], ◌∷◌, ◌++◌, Some, sum_by}
use Rattle.std.specs.List.{Contains}
use Rattle.tmm_model.specs.declared.premise.Edit.{Edit}
use Rattle.tmm_model.specs.Answers.{weight, size}
use Rattle.tmm_model.specs.Edits.{next_list}
use Rattle.tmm_model.specs.Maps.{built}
use Rattle.tmm_model.specs.Moments.{Moment, After}
use Rattle.tmm_model.specs.Standing.{Standing}
use Rattle.list_theory.specs.WellNamed.{IsSound}
use Rattle.list_theory.proofs.Distinct.{Distinct}
use Rattle.list_theory.proofs.Elements.{In}
use Rattle.belief_theory.specs.Right.{Occurs}
use Rattle.dist_net.specs.Net.{Net}
use Rattle.spots.specs.Forest.{Forest, Member, member, moment}
use Rattle.spots.specs.OfLists.{HasOccurrences}
use Rattle.decision_rows.specs.declared.row.Decision.{Decision}
use Rattle.revisions.specs.Keeping.{IsTold}
use Rattle.revisions.specs.Maps.{revision}
use Rattle.revisions.specs.Steps.{IsUnder}
use Rattle.joined.specs.Netted.{IsNetted, IsCurrent}
use Rattle.joined.specs.Rows.{Row, Rows, fires_by, NoneWaits}
use Rattle.joined.specs.Starting.{IsPrepared}
use Rattle.joined.specs.Turning.{effect_of, IsCodeTurn}

-- these are the derived occurrences that entered and left so far, where the nodes are these
abbrev pub IsToldOf : Standing → Standing → Forest → List Moment → List Moment → Type 0
IsToldOf old new f ins outs = (b : List Moment) → HasOccurrences b f → IsTold (revision (built old) (built new)) b ins outs

-- ---- at the beginning

-- those of the list before that occur no longer, each once
pub record LeaveFirst (old new : Standing) (outs : List Moment) : Type 0 where
  pub each : (t : Moment) (r : List ℕ) → In (After t r) outs ↔ (Contains (built old).believed (After t r) × (Occurs new (After t r) → ⊥))
  pub derived : (y : Moment) → In y outs → (t : Moment) × (r : List ℕ) × (y ≡ After t r)
  pub once : Distinct outs

-- **At the beginning none entered, and those left that occur no longer.**
abbrev pub PreparedAreTold : Type 0
PreparedAreTold =
    (old : Standing) (edit : Edit) (net_before net : Net) (f g : Forest) (rows after : Rows) (outs : List Moment)
    → IsSound old → IsSound (next_list old edit)
    → IsCurrent old net_before f rows → IsPrepared old (next_list old edit) net f g rows after → LeaveFirst old (next_list old edit) outs
    → IsToldOf old (next_list old edit) g [] outs

-- ---- at a turn

-- what a turn tells: nothing, the effect that enters, or what is withdrawn, each once
pub data TellsMore (f : Forest) (p : Row) (found : Decision) (ins outs ins_after outs_after : List Moment) : Type 0 where
  nothing : fires_by found ≡ fires_by p.found → ins_after ≡ ins → outs_after ≡ outs → TellsMore f p found ins outs ins_after outs_after
  an_entry : fires_by found ≡ true → fires_by p.found ≡ false → ins_after ≡ effect_of f p ∷ ins → outs_after ≡ outs → TellsMore f p found ins outs ins_after outs_after
  leaving : fires_by found ≡ false → fires_by p.found ≡ true → (out : List Moment)
      → ((y : Moment) → In y out ↔ ((x : ℕ) × (m : Member) × (member f x ≡ Some m) × (moment m ≡ y) × IsUnder (effect_of f p) y)) → Distinct out
      → ins_after ≡ ins → outs_after ≡ out ++ outs → TellsMore f p found ins outs ins_after outs_after

-- **What entered and left is told from turn to turn.**
abbrev pub TurnsTell : Type 0
TurnsTell =
    (old : Standing) (edit : Edit) (net : Net) (f g : Forest) (rows after : Rows) (taken : List (Moment × List ℕ)) (x : ℕ) (p : Row) (found : Decision)
    (ins outs ins_after outs_after : List Moment)
    → IsSound old → IsSound (next_list old edit)
    → IsNetted old (next_list old edit) net f rows taken
    → IsCodeTurn (revision (built old) (built (next_list old edit))) (next_list old edit) net.names f g rows after x p found
    → IsToldOf old (next_list old edit) f ins outs → TellsMore f p found ins outs ins_after outs_after
    → IsToldOf old (next_list old edit) g ins_after outs_after

-- ---- at the end

-- the derived occurrences that the second list believes newly, and no longer, each once
pub record TellsAll (old new : Standing) (ins outs : List Moment) : Type 0 where
  pub entered : (t : Moment) (r : List ℕ) → In (After t r) ins ↔ (Contains (built new).believed (After t r) × (Contains (built old).believed (After t r) → ⊥))
  pub left : (t : Moment) (r : List ℕ) → In (After t r) outs ↔ (Contains (built old).believed (After t r) × (Contains (built new).believed (After t r) → ⊥))
  pub entered_once : Distinct ins
  pub left_once : Distinct outs

-- **Where no row waits, what is told is what changed**; and at any time what entered counts no more
-- than all that is believed.
abbrev pub NettedTell : Type 0
NettedTell =
    (old : Standing) (edit : Edit) (net : Net) (f : Forest) (rows : Rows) (taken : List (Moment × List ℕ)) (ins outs : List Moment)
    → IsSound old → IsSound (next_list old edit)
    → IsNetted old (next_list old edit) net f rows taken → IsToldOf old (next_list old edit) f ins outs
    → (sum_by (weight (built (next_list old edit))) ins ≤ size (built (next_list old edit)))
    × (NoneWaits rows → TellsAll old (next_list old edit) ins outs)
