-- Edits that leave beliefs as they are, since no point moves whose distances beliefs read.
use Rattle.std.specs.Prelude.{ℕ, List}
use Rattle.std.specs.List.{Contains}
use Rattle.tmm_model.specs.declared.point.PointName.{PointName}
use Rattle.tmm_model.specs.Standing.{Standing, points_in}
use Rattle.dist_net.specs.Net.{Net, IsMovedAt}
use Rattle.net_theory.specs.Fits.{IsNetOf}
use Rattle.net_theory.specs.KeptNumbers.{PointsKeepNumbers}
use Rattle.net_theory.specs.Represents.{Names, IsNumberOf}
use Rattle.spots.specs.Forest.{Forest}
use Rattle.spots.specs.OfLists.{IsForestOf}
use Rattle.revisions.specs.Alike.{IsAnchor, SayAlike, AreAlike}

-- none of the numbers is that of a point whose distances beliefs read
abbrev pub AreElsewhere : Standing → Names → List ℕ → Type 0
AreElsewhere s names numbers = (n : ℕ) (p : PointName) → Contains numbers n → IsNumberOf names n p → IsAnchor s p → ⊥

-- **Lists that say the same are alike where no such point moved.**
abbrev pub UnmovedAreAlike : Type 0
UnmovedAreAlike =
    (s t : Standing) (net after : Net) (moved : List ℕ) → SayAlike s t → IsNetOf s net → IsNetOf t after
    → PointsKeepNumbers (points_in t.premises) net.names after.names → IsMovedAt moved net after → AreElsewhere t after.names moved
    → AreAlike s t

-- **Nodes that one of two lists sees that say the same the other sees too**, where points keep
-- their numbers.
abbrev pub LikeListsSee : Type 0
LikeListsSee =
    (s t : Standing) (net after : Net) (f : Forest) → SayAlike s t → IsNetOf t after
    → PointsKeepNumbers (points_in t.premises) net.names after.names
    → IsForestOf s net f → IsForestOf t after f
