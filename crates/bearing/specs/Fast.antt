-- Points that stand fast: no two of them are another distance apart now.
use Rattle.std.specs.Prelude.{◌≡◌, ◌⊎◌, ℕ, Bool, true, false, not, List, Option}
use Rattle.std.specs.List.{Contains}
use Rattle.dist_net.specs.Net.{Nets, IsInUse}
use Rattle.joined.specs.Shifting.{AreLoose}
use Rattle.bearing.specs.MovedPairs.{is_moved}
use Rattle.bearing.specs.PointSets.{is_in, has_pair}

-- the number is that of a point, now and at the last commit
abbrev pub IsInBoth : Nets → ℕ → Type 0
IsInBoth nets p = IsInUse nets.committed.names p × IsInUse nets.present.names p

-- so are those of the set
abbrev pub AreInBoth : Nets → List Bool → Type 0
AreInBoth nets set = (p : ℕ) → is_in set p ≡ true → IsInBoth nets p

-- whether the number is not in the set
abbrev pub is_out : List Bool → ℕ → Bool
is_out set p = not (is_in set p)

-- the points of the set stand fast
pub record StandFast (nets : Nets) (added : Option (List ℕ)) (set : List Bool) : Type 0 where
  pub both : AreInBoth nets set
  pub loose : AreLoose (is_moved nets added) (is_out set)

-- The point was there, and is `start`, or makes no pair with `start` and is none of those that are
-- listed. Each pair has one that is listed, so no two of these make a pair.
abbrev pub IsFastBy : List ℕ → List Bool → List Bool → ℕ → Type 0
IsFastBy moved pairs kept p =
    (is_in kept p ≡ true) × ((p ≡ 0) ⊎ ((has_pair pairs p 0 ≡ false) × (has_pair pairs 0 p ≡ false) × (Contains moved p → ⊥)))
