-- Laws of marks: rows that wait since points moved, or for another horizon, are those that the edit
-- touches.
use Rattle.std.specs.Prelude.{◌≡◌, ◌≢◌, ◌+ℤ◌, ℕ, pos, int_le, Bool, true, false, List, Option, Some, None}
use Rattle.std.specs.List.{Contains}
use Rattle.tmm_model.specs.declared.premise.Edit.{Edit}
use Rattle.tmm_model.specs.declared.premise.Edit.TheVariants.{Add, Erase, Horizon, Upgrade}
use Rattle.tmm_model.specs.Beliefs.{due, rules_at}
use Rattle.tmm_model.specs.Edits.{next_list}
use Rattle.tmm_model.specs.Maps.{built}
use Rattle.tmm_model.specs.Moments.{Moment, rule_of}
use Rattle.tmm_model.specs.Standing.{Standing, points_in, name_of, far_in}
use Rattle.belief_theory.specs.Outcomes.{outcome}
use Rattle.dist_net.specs.Net.{Net, Nets}
use Rattle.net_theory.specs.Fits.{IsNetOf}
use Rattle.net_theory.specs.KeptNumbers.{PointsKeepNumbers}
use Rattle.spots.specs.Forest.{Forest, IsLive, moment_at}
use Rattle.spots.specs.OfLists.{IsForestOf, HasOccurrences}
use Rattle.occ_tree.specs.OfLists.{IsTreeOf}
use Rattle.occ_tree.specs.Places.{forest}
use Rattle.occ_tree.specs.Standing.{Kept, present, early}
use Rattle.revisions.specs.Maps.{watches}
use Rattle.joined.specs.Gaps.{SameGaps, ReadsNoRival, MovesAt}
use Rattle.joined.specs.Shifting.{AreLoose, MayRest}
use Rattle.bearing.specs.Events.{is_between}
use Rattle.bearing.specs.MovedPairs.{WereThere, is_moved}

-- the name of the premise that the edit adds
abbrev pub added_by : Edit → Option (List ℕ)
added_by (Add premise) = Some (name_of premise)
added_by (Erase name) = None
added_by (Horizon n) = None
added_by Upgrade = None

-- **But for those of the premise that the edit adds, all points were there at the last commit.**
abbrev pub PointsWereThere : Type 0
PointsWereThere =
    (old : Standing) (edit : Edit) (nets : Nets) → IsNetOf old nets.committed → IsNetOf (next_list old edit) nets.present
    → PointsKeepNumbers (points_in (next_list old edit).premises) nets.committed.names nets.present.names
    → WereThere nets (added_by edit)

-- **Of a decision that was there, and of which no token that it reads entered, points moved exactly
-- where the points on which it depends are not as far apart as they were.**
abbrev pub MovedRowsAreTouched : Type 0
MovedRowsAreTouched =
    (old : Standing) (edit : Edit) (nets : Nets) (f : Forest) (b : List Moment) (r : List ℕ) (x : ℕ)
    → IsNetOf old nets.committed → IsForestOf (next_list old edit) nets.present f
    → PointsKeepNumbers (points_in (next_list old edit).premises) nets.committed.names nets.present.names
    → HasOccurrences b f → IsLive f x
    → Contains (built old).believed (moment_at f x)
    → ((y : Moment) → Contains b y → watches (next_list old edit) r y ≡ true → Contains (built old).believed y)
    → (SameGaps old (next_list old edit) b (moment_at f x) r → MovesAt (is_moved nets (added_by edit)) (next_list old edit) f r x → ⊥)
    × ((MovesAt (is_moved nets (added_by edit)) (next_list old edit) f r x → ⊥) → SameGaps old (next_list old edit) b (moment_at f x) r)

-- **A decision that may rest though points moved keeps its outcome**, if it was there, the horizon
-- is the same, no premise said that another fact contradicts one that it reads, and no token that it
-- reads left or entered.
abbrev pub RestingRowsKeep : Type 0
RestingRowsKeep =
    (old : Standing) (edit : Edit) (nets : Nets) (loose : ℕ → Bool) (f : Forest) (b : List Moment) (r : List ℕ) (x : ℕ)
    → IsNetOf old nets.committed → IsForestOf (next_list old edit) nets.present f
    → PointsKeepNumbers (points_in (next_list old edit).premises) nets.committed.names nets.present.names
    → AreLoose (is_moved nets (added_by edit)) loose → HasOccurrences b f → IsLive f x
    → Contains (built old).believed (moment_at f x) → Contains (rules_at old (moment_at f x)) r → Contains (rules_at (next_list old edit) (moment_at f x)) r
    → old.horizon ≡ (next_list old edit).horizon → ReadsNoRival old r
    → ((y : Moment) → Contains (built old).believed y → watches old r y ≡ true → Contains b y)
    → ((y : Moment) → Contains b y → watches (next_list old edit) r y ≡ true → Contains (built old).believed y)
    → MayRest (is_moved nets (added_by edit)) loose (next_list old edit) nets f r x
    → outcome old (far_in old.premises) (built old).believed (moment_at f x) r ≡ outcome (next_list old edit) (far_in (next_list old edit).premises) b (moment_at f x) r

-- **An effect is due between two horizons exactly where one of them has it in time and the other
-- has not.**
abbrev pub DueRowsChange : Type 0
DueRowsChange =
    (s : Standing) (net : Net) (k : Kept) (x : ℕ) (r : List ℕ) (before after : ℕ) → IsTreeOf s net k → IsLive (forest k) x
    → (is_between (early (present k) x +ℤ (rule_of s r).lo) before after ≡ false
    → int_le (due s (far_in s.premises) (moment_at (forest k) x) r) (pos before) ≡ int_le (due s (far_in s.premises) (moment_at (forest k) x) r) (pos after))
    × (is_between (early (present k) x +ℤ (rule_of s r).lo) before after ≡ true
    → int_le (due s (far_in s.premises) (moment_at (forest k) x) r) (pos before) ≢ int_le (due s (far_in s.premises) (moment_at (forest k) x) r) (pos after))
