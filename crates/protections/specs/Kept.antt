-- Which protections an edit leaves alone.
use Rattle.std.specs.Prelude.{◌≡◌, ℕ, List, Some}
use Rattle.std.specs.List.{Contains}
use Rattle.tmm_model.specs.declared.point.PointName.{PointName}
use Rattle.tmm_model.specs.declared.premise.Edit.{Edit}
use Rattle.tmm_model.specs.declared.premise.Premise.TheVariants.{Protect}
use Rattle.tmm_model.specs.Answers.{broken}
use Rattle.tmm_model.specs.Maps.{built}
use Rattle.tmm_model.specs.Sorts.{class_in}
use Rattle.premise_list.specs.States.{States}
use Rattle.dist_net.specs.Net.{Nets, IsMovedAt}
use Rattle.net_theory.specs.Represents.{IsNumberOf}
use Rattle.spots.specs.Spots.{AreTokens}
use Rattle.occ_tree.specs.Standing.{Kept, forest, present}
use Rattle.supports.specs.Apart.{IsApart}
use Rattle.supports.specs.Edited.{IsEdited}

-- the point has a number, and is none of those that moved
pub record IsStill (nets : Nets) (p : PointName) : Type 0 where
  pub number : ℕ
  pub is : IsNumberOf nets.present.names number p
  pub unmoved : Contains nets.moved number → ⊥

-- the class of the fact is apart from what the edit touched, and the tokens that are kept of each
-- class are those of the nodes
pub record IsOfApart (lists : States) (nets : Nets) (tree : Kept) (fact : List ℕ) : Type 0 where
  pub class : List ℕ
  pub of_class : class_in lists.present.premises fact ≡ Some class
  pub apart : IsApart lists nets tree class
  pub tokens : (other : List ℕ) → AreTokens (forest (present tree)) other ((present tree).tokens other)

-- The edit left the protection alone: it stood before, neither of its points moved, and the class
-- of its fact is apart from what the edit touched.
pub record IsLeftAlone (lists : States) (nets : Nets) (tree : Kept) (name fact : List ℕ) (from to : PointName) : Type 0 where
  pub stood : Contains lists.committed.premises (Protect name fact from to)
  pub first : IsStill nets from
  pub last : IsStill nets to
  pub of_fact : IsOfApart lists nets tree fact

-- **Of such a protection the same is found as before the edit.**
abbrev pub LeftAloneStay : Type 0
LeftAloneStay =
    (lists : States) (nets : Nets) (edit : Edit) (tree : Kept) → IsEdited lists nets edit tree → IsMovedAt nets.moved nets.committed nets.present
    → (name fact : List ℕ) (from to : PointName) → IsLeftAlone lists nets tree name fact from to
    → broken (built lists.present) (Protect name fact from to) ≡ broken (built lists.committed) (Protect name fact from to)
