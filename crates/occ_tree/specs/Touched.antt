-- Which nodes and which classes an edit may have touched since the last commit.
use Rattle.std.specs.Prelude.{◌≡◌, ◌⊎◌, ℕ, List, Some}
use Rattle.std.specs.List.{Contains}
use Rattle.dist_net.specs.Net.{Nets}
use Rattle.spots.specs.Forest.{Member, member}
use Rattle.occ_tree.specs.Standing.{Kept, present, committed, forest}

-- the node begins or ends at a point that moved, or `start` is one of those
abbrev pub IsAtMoved : List ℕ → Member → Type 0
IsAtMoved moved m = Contains moved 0 ⊎ (Contains moved m.begin ⊎ ((e : ℕ) × (m.end ≡ Some e) × Contains moved e))

-- **The class is untouched**: its tokens are those of the last commit, and none of them begins or
-- ends at a point that moved.
pub record IsUntouched (nets : Nets) (k : Kept) (class : List ℕ) : Type 0 where
  pub tokens : (present k).tokens class ≡ (committed k).tokens class
  pub unmoved : (x : ℕ) (m : Member) → member (forest (present k)) x ≡ Some m → m.class ≡ Some class → IsAtMoved nets.moved m → ⊥
