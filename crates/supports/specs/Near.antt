-- What a search among the nearest tokens tells.
use Rattle.std.specs.Prelude.{◌≡◌, ℕ, ◌<◌, ◌≤◌, List, length}
use Rattle.tmm_model.specs.declared.token.TokenRow.{TokenRow}
use Rattle.supports.specs.Entries.{fact_at}
use Rattle.supports.specs.Firsts.{IsFirstOf, IsClipper}
use Rattle.dist_net.specs.Net.{Net}
use Rattle.spots.specs.declared.spot.Spot.{Spot}
use Rattle.spots.specs.Forest.{Forest}
use Rattle.supports.specs.declared.near.Near.{Near}
use Rattle.supports.specs.declared.near.Near.TheVariants.{Found, Open}
use Rattle.supports.specs.declared.near.Stretch.{Stretch}

-- the tokens of the stretch are of one fact
pub record AreAlike (rows : List (TokenRow Spot)) (stretch : Stretch) : Type 0 where
  pub within : stretch.end ≤ length rows
  pub alike : (i j : ℕ) → stretch.first ≤ i → i < stretch.end → stretch.first ≤ j → j < stretch.end → fact_at rows i ≡ fact_at rows j

-- what was found is the place of the first of the tokens that clips the one at i
abbrev pub IsNear : Net → Forest → List (TokenRow Spot) → ℕ → Near → Type 0
IsNear net f rows i (Found place) = IsFirstOf (IsClipper net f rows i) place
IsNear net f rows i Open = Unit {0}
