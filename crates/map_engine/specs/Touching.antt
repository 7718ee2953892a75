-- Which nodes an edit may have touched, as its update tells.
use Rattle.tmm_model.specs.declared.premise.Edit.{Edit}
use Rattle.tmm_model.specs.Standing.{premise_in}
use Rattle.premise_list.specs.States.{States}
use Rattle.dist_net.specs.Net.{Nets}
use Rattle.spots.specs.Spots.{AreTokens}
use Rattle.occ_tree.specs.Standing.{Kept, committed}
use Rattle.supports.specs.Edited.{IsEdited, old_forest}
use Rattle.joined.specs.Telling.{TellsAll}
use Rattle.belief_turns.specs.Telling.{ins, outs}
use Rattle.std.specs.Prelude.{◌≡◌, ℕ, List, map, Option, MatchOption, IsSome, IsNone}
use Rattle.std.specs.List.{Contains}
use Rattle.tmm_model.specs.declared.point.PointName.TheVariants.{Begin}
use Rattle.tmm_model.specs.Moments.{Moment, At, moment_of}
use Rattle.list_theory.proofs.Elements.{In}
use Rattle.spots.specs.Forest.{Forest, IsLive, moment_at}
use Rattle.belief_turns.specs.declared.told.Told.{Told}
use Rattle.belief_turns.specs.Numbered.{KeepsNumbers, SparesRoots, left_under}

-- every node that is this occurrence is among the numbers
abbrev pub HasNodeOf : Forest → Moment → List ℕ → Type 0
HasNodeOf f k numbers = (x : ℕ) → IsLive f x → moment_at f x ≡ k → Contains numbers x

-- the occurrences that are told as entered
abbrev pub entered_of : Told → List Moment
entered_of told = map (λ m. moment_of m.occ) told.entered.items

-- Among the numbers are the nodes of what entered, of the root of this name, if there is one, those
-- of what left, and these others.
pub record TakesIn (f : Forest) (told : Told) (added : Option (List ℕ)) (others numbers : List ℕ) : Type 0 where
  pub entered : (k : Moment) → In k (entered_of told) → HasNodeOf f k numbers
  pub left : (x : ℕ) (k : Moment) → In (x, k) (left_under told.left.items) → Contains numbers x
  pub root : MatchOption added (Unit {0}) (λ name. HasNodeOf f (At (Begin name)) numbers)
  pub beside : (x : ℕ) → Contains others x → Contains numbers x

-- The update of the edit told these occurrences as entered and left: list, network and nodes are
-- those before and after it; the derived occurrences that are told are those that changed, and what
-- left is told under its numbers; a root that stands stays; and the roots of names that stand no
-- more had these numbers.
pub record IsToldOf (lists : States) (nets : Nets) (edit : Edit) (tree : Kept) (told : Told) (gone : List ℕ) : Type 0 where
  pub edited : ((class : List ℕ) → AreTokens (old_forest tree) class ((committed tree).tokens class)) → IsEdited lists nets edit tree
  pub tells : TellsAll lists.committed lists.present (ins told) (outs told)
  pub numbers : KeepsNumbers tree (left_under told.left.items)
  pub roots : SparesRoots lists.present tree
  pub erased : (name : List ℕ) → IsSome (premise_in lists.committed.premises name) → IsNone (premise_in lists.present.premises name)
      → HasNodeOf (old_forest tree) (At (Begin name)) gone
