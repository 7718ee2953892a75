-- How nodes keep their numbers from the last commit on, and what is told of those that are gone.
use Rattle.std.specs.Prelude.{◌≡◌, ◌↔◌, ℕ, true, false, List, map, None}
use Rattle.tmm_model.specs.Moments.{Moment, moment_of, is_derived}
use Rattle.tmm_model.specs.Standing.{Standing}
use Rattle.list_theory.proofs.Elements.{In}
use Rattle.spots.specs.Forest.{Forest, member, IsLive, moment_at}
use Rattle.occ_tree.specs.Places.{forest}
use Rattle.occ_tree.specs.Standing.{Kept, committed, forest as forest_of}
use Rattle.revisions.specs.Standing.{Stands}
use Rattle.belief_table.specs.declared.state.Beliefs.{Beliefs}
use Rattle.belief_table.specs.declared.dated.DatedOcc.{DatedOcc}
use Rattle.belief_turns.specs.declared.told.Told.{Told}

-- the nodes of the last commit
abbrev pub then_forest : Kept → Forest
then_forest k = forest_of (committed k)

-- the number of the node, and its occurrence
abbrev pub seen_numbered : DatedOcc → ℕ × Moment
seen_numbered m = (m.node, moment_of m.occ)

-- what left, under the numbers that its nodes had
abbrev pub left_under : List DatedOcc → List (ℕ × Moment)
left_under left = map seen_numbered left

-- **Nodes keep their numbers on the way to a list.** A number of the last commit that is still of a
-- node is of the same occurrence. Each derived occurrence whose node is gone is told under its
-- number, and what is told under a number of the last commit is the occurrence of that. No root is
-- gone that stands in the list.
pub record AreNumbered (s : Standing) (tree : Kept) (left : List (ℕ × Moment)) : Type 0 where
  pub stay : (x : ℕ) → IsLive (then_forest tree) x → IsLive (forest tree) x → moment_at (then_forest tree) x ≡ moment_at (forest tree) x
  pub told : (x : ℕ) → IsLive (then_forest tree) x → member (forest tree) x ≡ None → is_derived (moment_at (then_forest tree) x) ≡ true
      → In (x, moment_at (then_forest tree) x) left
  pub own : (x : ℕ) (k : Moment) → In (x, k) left → IsLive (then_forest tree) x → k ≡ moment_at (then_forest tree) x
  pub roots : (x : ℕ) → IsLive (then_forest tree) x → is_derived (moment_at (then_forest tree) x) ≡ false → Stands s (moment_at (then_forest tree) x)
      → IsLive (forest tree) x

-- a step keeps them so, with what it tells
abbrev pub StayNumbered : Standing → Beliefs → Beliefs → Told → Told → Type 0
StayNumbered s old new told told_after = AreNumbered s old.tree (left_under told.left.items) → AreNumbered s new.tree (left_under told_after.left.items)

-- **After an update** a node of the last commit and a present one are the same occurrence exactly
-- where they have the same number, and the derived occurrences of nodes that are gone are told
-- under their numbers.
pub record KeepsNumbers (tree : Kept) (left : List (ℕ × Moment)) : Type 0 where
  pub same : (x y : ℕ) → IsLive (then_forest tree) x → IsLive (forest tree) y → (moment_at (then_forest tree) x ≡ moment_at (forest tree) y) ↔ (x ≡ y)
  pub told : (x : ℕ) → IsLive (then_forest tree) x → member (forest tree) x ≡ None → is_derived (moment_at (then_forest tree) x) ≡ true
      → In (x, moment_at (then_forest tree) x) left
  pub own : (x : ℕ) (k : Moment) → In (x, k) left → IsLive (then_forest tree) x → k ≡ moment_at (then_forest tree) x

-- No root of the last commit is gone that stands in the list.
abbrev pub SparesRoots : Standing → Kept → Type 0
SparesRoots s tree =
    (x : ℕ) → IsLive (then_forest tree) x → is_derived (moment_at (then_forest tree) x) ≡ false → Stands s (moment_at (then_forest tree) x) → IsLive (forest tree) x
