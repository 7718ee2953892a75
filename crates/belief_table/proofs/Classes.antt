-- The class of a node.
use Rattle.std.proofs.Common.{◌≡◌, ℕ, Option, Some, None, ap}
use Rattle.std.specs.Option.{option_map_or}
use Rattle.spots.specs.Forest.{Member, member}
use Rattle.occ_tree.specs.Places.{forest}
use Rattle.occ_tree.specs.Standing.{Kept}
use Rattle.belief_table.specs.Erasing.{class_at}

pub class_is_at : (tree : Kept) (y : ℕ) (m : Member) → member (forest tree) y ≡ Some m → class_at tree y ≡ m.class
class_is_at tree y m at = ap (λ (o : Option Member). option_map_or (λ (k : Member). k.class) o None) at
