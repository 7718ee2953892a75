-- Roots that get the dates of their points.
use Rattle.std.specs.Prelude.{◌≡◌, ◌⊎◌, ℕ, [], None, Some}
use Rattle.dist_net.specs.Net.{Nets, IsInUse}
use Rattle.spots.specs.Forest.{Member, member}
use Rattle.occ_tree.specs.Dated.{point_early}
use Rattle.occ_tree.specs.Places.{forest}
use Rattle.occ_tree.specs.Standing.{Kept, present, committed, early, below}

-- only dates change: the nodes stay, the roots in their order, and the last commit
pub record KeepsNodes (old new : Kept) : Type 0 where
  pub nodes : forest new ≡ forest old
  pub roots : below (present new) None ≡ below (present old) None
  pub committed_is : committed new ≡ committed old

-- each root has the date of its point, as it is or as it was at the last commit
abbrev pub AreDatedBefore : Nets → Kept → Type 0
AreDatedBefore nets k =
    (x : ℕ) (m : Member) → member (forest k) x ≡ Some m → m.links ≡ []
    → (early (present k) x ≡ point_early nets.present m.begin) ⊎ (IsInUse nets.committed.names m.begin × (early (present k) x ≡ point_early nets.committed m.begin))
