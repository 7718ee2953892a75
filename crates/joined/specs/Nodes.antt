-- What becomes of nodes when some leave, and when the list changes; and what a decision reads of a
-- node.
use Rattle.std.specs.Prelude.{◌≡◌, ◌⊎◌, ℕ, false, ◌||◌, List, Some}
use Rattle.std.specs.List.{Contains}
use Rattle.std.specs.Option.{option_map_or}
use Rattle.tmm_model.specs.declared.premise.Edit.{Edit}
use Rattle.tmm_model.specs.Edits.{next_list}
use Rattle.tmm_model.specs.Moments.{Moment}
use Rattle.tmm_model.specs.Standing.{Standing, points_in}
use Rattle.belief_theory.specs.Right.{Occurs}
use Rattle.dist_net.specs.Net.{Net}
use Rattle.net_theory.specs.Fits.{IsNetOf}
use Rattle.net_theory.specs.KeptNumbers.{PointsKeepNumbers}
use Rattle.net_theory.specs.Represents.{Names}
use Rattle.spots.specs.Forest.{Forest, Member, member, moment, Withdraws}
use Rattle.spots.specs.OfLists.{IsForestOf, IsMemberOf, HasOccurrences}
use Rattle.revisions.specs.Maps.{watches}
use Rattle.revisions.specs.Steps.{IsUnder}
use Rattle.joined.specs.Gaps.{reads_class, reads_rival}

-- ---- withdrawing

-- the nodes that are left of b when m is withdrawn: all but m and what stands below it
pub record Leaves (s : Standing) (net : Net) (b : List Moment) (new : Forest) (m : Member) : Type 0 where
  pub nodes : List Moment
  pub seen : IsForestOf s net new
  pub holds : HasOccurrences nodes new
  pub out : (x : Moment) → Contains nodes x → Contains b x × (IsUnder (moment m) x → ⊥)
  pub rest : (x : Moment) → Contains b x → Contains nodes x ⊎ IsUnder (moment m) x

-- **A withdrawal takes out a node with all below it, and nothing else.**
abbrev pub WithdrawalsLeave : Type 0
WithdrawalsLeave =
    (s : Standing) (net : Net) (b : List Moment) (old new : Forest) (m : Member)
    → IsForestOf s net old → HasOccurrences b old → Withdraws old new m → Leaves s net b new m

-- ---- another list

-- **Nodes of the list before that still occur are seen by the list after**, where points keep their
-- numbers.
abbrev pub NodesStaySeen : Type 0
NodesStaySeen =
    (old : Standing) (edit : Edit) (net after : Net) (f : Forest)
    → IsForestOf old net f → IsNetOf (next_list old edit) after
    → PointsKeepNumbers (points_in (next_list old edit).premises) net.names after.names
    → ((x : ℕ) (m : Member) → member f x ≡ Some m → Occurs (next_list old edit) (moment m))
    → IsForestOf (next_list old edit) after f

-- ---- reading

-- **A decision reads a node exactly where the node has a class, and that is the class of an
-- antecedent or an exception, or its fact contradicts one of these.**
abbrev pub ReadsByClass : Type 0
ReadsByClass =
    (s : Standing) (names : Names) (m : Member) (r : List ℕ) → IsMemberOf s names m
    → watches s r (moment m) ≡ option_map_or (λ class. reads_class s r class || reads_rival s r m.what) m.class false
