-- What is kept of the nodes of the last commit, by their numbers, and what becomes of it by an
-- edit.
use Rattle.std.specs.Prelude.{◌≡◌, ℕ, ◌==◌, true, false, List, [], ◌∷◌, map, Option, Some, None, IfSome, nat_eq, slice_index_or}
use Rattle.std.specs.List.{All, Contains, IsDistinct}
use Rattle.tmm_model.specs.declared.premise.Edit.{Edit}
use Rattle.tmm_model.specs.Answers.{row, weight}
use Rattle.tmm_model.specs.Maps.{built}
use Rattle.tmm_model.specs.Standing.{Standing}
use Rattle.premise_list.specs.States.{States}
use Rattle.dist_net.specs.Net.{Nets}
use Rattle.spots.specs.Forest.{Forest, Member, member, IsLive, moment_at}
use Rattle.occ_tree.specs.Standing.{Kept, forest, present}
use Rattle.occ_tree.specs.Touched.{IsAtMoved}
use Rattle.supports.specs.Apart.{AreOthersApart}
use Rattle.supports.specs.Edited.{IsEdited, old_forest}
use Rattle.belief_list.specs.declared.list.BeliefRow.{BeliefRow}
use Rattle.belief_list.specs.declared.kept_rows.KeptRow.{KeptRow}
use Rattle.belief_list.specs.declared.kept_rows.Difference.{Difference}
use Rattle.belief_list.specs.Rows.{row_at}

-- the row under a number, none where there is none
abbrev pub row_under : List (Option KeptRow) → ℕ → Option KeptRow
row_under rows x = slice_index_or rows x None

-- the row as it is listed
abbrev pub listed_row : ℕ → KeptRow → BeliefRow
listed_row x r = record { node = x; early = r.early; clip = r.clip }

-- the row says of the node what the map of the list does: its date, what clips it, and what it
-- counts
pub record IsRowOf (s : Standing) (f : Forest) (x : ℕ) (r : KeptRow) : Type 0 where
  pub told : row_at f (listed_row x r) ≡ row (built s) (moment_at f x)
  pub clip : IfSome r.clip (IsLive f)
  pub weight : r.weight ≡ weight (built s) (moment_at f x)

-- **Each node has its row under its number, and no row stands under another.**
pub record AreRowsOf (s : Standing) (f : Forest) (rows : ℕ → Option KeptRow) : Type 0 where
  pub own : (x : ℕ) → IsLive f x → (r : KeptRow) × (rows x ≡ Some r) × IsRowOf s f x r
  pub none : (x : ℕ) → member f x ≡ None → rows x ≡ None

-- ---- what an edit makes of them

-- the rows once these differences are taken over: the first of a node counts
abbrev pub rows_after : List (Option KeptRow) → List Difference → ℕ → Option KeptRow
rows_after rows [] x = row_under rows x
rows_after rows (d ∷ ds) x = elim (x == d.node) [ true ↦ d.now | false ↦ rows_after rows ds x ]

-- the numbers of the nodes that differ
abbrev pub numbers_of : List Difference → List ℕ
numbers_of ds = map (λ d. d.node) ds

-- These nodes and classes are all that an edit may have touched: what entered and left, what begins
-- or ends at a point that moved, what counts more or less, and the classes of all others in which
-- something changed, or in what contradicts their facts.
pub record CoverTouched (lists : States) (nets : Nets) (tree : Kept) (nodes : List ℕ) (classes : List (List ℕ)) : Type 0 where
  pub entered : (x : ℕ) → IsLive (forest (present tree)) x → member (old_forest tree) x ≡ None → Contains nodes x
  pub left : (x : ℕ) → IsLive (old_forest tree) x → member (forest (present tree)) x ≡ None → Contains nodes x
  pub moved : (x : ℕ) (m : Member) → member (forest (present tree)) x ≡ Some m → IsAtMoved nets.moved m → Contains nodes x
  pub weights : (x : ℕ) → IsLive (old_forest tree) x → IsLive (forest (present tree)) x → (Contains nodes x → ⊥)
      → weight (built lists.committed) (moment_at (old_forest tree) x) ≡ weight (built lists.present) (moment_at (forest (present tree)) x)
  pub others : AreOthersApart lists nets tree classes

-- **These are the differences that the edit makes**: with them the rows of the list before it
-- become those of the list after it, and each is told once, with the row that was there.
pub record AreDifferences (lists : States) (nets : Nets) (edit : Edit) (tree : Kept) (kept : List (Option KeptRow)) (ds : List Difference) : Type 0 where
  pub edited : IsEdited lists nets edit tree
  pub before : AreRowsOf lists.committed (old_forest tree) (row_under kept)
  pub after : AreRowsOf lists.present (forest (present tree)) (rows_after kept ds)
  pub were : All (λ d. d.was ≡ row_under kept d.node) ds
  pub once : IsDistinct nat_eq (numbers_of ds)
