-- What clips the tokens of a class.
use Rattle.std.specs.Prelude.{◌≡◌, ℕ, Bool, true, false, List, length, ◌<◌, Option, slice_index_or}
use Rattle.tmm_model.specs.declared.token.TokenRow.{TokenRow}
use Rattle.tmm_model.specs.Standing.{Standing}
use Rattle.dist_net.specs.Net.{Net}
use Rattle.occ_tree.specs.Tokens.{numbers_in}
use Rattle.spots.specs.declared.spot.Spot.{Spot}
use Rattle.spots.specs.Forest.{Forest}
use Rattle.supports.specs.Behind.{IsClip}

-- what clips the node of each of the tokens that is wanted, in their order
pub record AreClips (s : Standing) (net : Net) (f : Forest) (rows : List (TokenRow Spot)) (wanted : List Bool) (clips : List (Option ℕ)) : Type 0 where
  pub count : length clips ≡ length rows
  pub each : (i : ℕ) (d : Option ℕ) → i < length rows → slice_index_or wanted i false ≡ true → IsClip s net f (slice_index_or (numbers_in rows) i 0) (slice_index_or clips i d)
