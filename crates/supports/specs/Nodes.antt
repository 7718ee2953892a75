-- Tokens of nodes.
use Rattle.std.specs.Prelude.{◌≡◌, ℕ}
use Rattle.tmm_model.specs.declared.token.TokenRow.{TokenRow}
use Rattle.spots.specs.declared.spot.Spot.{Spot}
use Rattle.spots.specs.declared.spot.Spot.TheVariants.{Node}

-- the token begins at a node
abbrev pub IsOfNode : TokenRow Spot → Type 0
IsOfNode row = (x : ℕ) × (row.spot ≡ Node x)
