-- A list, its network and its nodes, before an edit and after it.
use Rattle.std.specs.Prelude.{◌≡◌, ◌↔◌, ℕ, List}
use Rattle.std.specs.List.{Contains}
use Rattle.tmm_model.specs.declared.premise.Edit.{Edit}
use Rattle.tmm_model.specs.Edits.{next_list}
use Rattle.tmm_model.specs.Maps.{built}
use Rattle.tmm_model.specs.Standing.{points_in}
use Rattle.premise_list.specs.States.{States}
use Rattle.dist_net.specs.Net.{Nets}
use Rattle.net_theory.specs.KeptNumbers.{PointsKeepNumbers}
use Rattle.spots.specs.Forest.{Forest, IsLive, moment_at}
use Rattle.spots.specs.OfLists.{IsForestOf, HasOccurrences}
use Rattle.spots.specs.Spots.{AreTokens}
use Rattle.occ_tree.specs.Standing.{Kept, forest, present, committed}
use Rattle.occ_tree.specs.Touched.{IsUntouched}

-- the nodes of the last commit
abbrev pub old_forest : Kept → Forest
old_forest k = forest (committed k)

-- **The edit is made of list, network and nodes, and not committed.** The nodes of the last commit
-- are what is believed of the list before it, and the present ones of the list after it; points and
-- nodes that stay keep their numbers; and the tokens of each class of the last commit are those of
-- its nodes.
pub record IsEdited (lists : States) (nets : Nets) (edit : Edit) (tree : Kept) : Type 0 where
  pub list : lists.present ≡ next_list lists.committed edit
  pub points : PointsKeepNumbers (points_in lists.present.premises) nets.committed.names nets.present.names
  pub seen_then : IsForestOf lists.committed nets.committed (old_forest tree)
  pub holds_then : HasOccurrences (built lists.committed).believed (old_forest tree)
  pub tokens_then : (class : List ℕ) → AreTokens (old_forest tree) class ((committed tree).tokens class)
  pub seen_now : IsForestOf lists.present nets.present (forest (present tree))
  pub holds_now : HasOccurrences (built lists.present).believed (forest (present tree))
  pub numbers : (x y : ℕ) → IsLive (old_forest tree) x → IsLive (forest (present tree)) y → (moment_at (old_forest tree) x ≡ moment_at (forest (present tree)) y) ↔ (x ≡ y)

-- every class that is not among these is untouched
abbrev pub AreOthersUntouched : Nets → Kept → List (List ℕ) → Type 0
AreOthersUntouched nets tree classes = (class : List ℕ) → (Contains classes class → ⊥) → IsUntouched nets tree class
