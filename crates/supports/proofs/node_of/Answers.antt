use Rattle.std.proofs.Common.{◌≡◌, ℕ}
use Rattle.spots.specs.declared.spot.Spot.{Spot}
use Rattle.spots.specs.declared.spot.Spot.TheVariants.{Declared, Node}
use Rattle.supports.proofs.node_of.Goals as goal

no_point : (p : Spot) (n : ℕ) → p ≡ Declared n → (x : ℕ) × (p ≡ Node x) → ⊥
no_point p n e (x, is) = cc

pub unreachable-requires : goal.unreachable-requires
unreachable-requires c = no_point _ _ c.in-Declared.is c.requires
