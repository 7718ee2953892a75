-- The declared points of spots have numbers below 256.
use Rattle.std.proofs.Common.{◌≡◌, ℕ, ◌<◌, List, Option, Some, None, refl, sym, subst, inl, inr, ◌⊎◌, arith}
use Rattle.std.specs.Option.{option_map_or}
use Rattle.spots.specs.declared.spot.Spot.{Spot}
use Rattle.spots.specs.declared.spot.Spot.TheVariants.{Node}
use Rattle.spots.specs.Forest.{Forest, Member, member}
use Rattle.spots.specs.Spots.{base_of}
use Rattle.joined.specs.Gaps.{begin, an_end}
use Rattle.joined.specs.Shifting.{IsSpotOf}
use Rattle.bearing.specs.Reach.{AreBelow256}

-- so has that of the spot
abbrev pub Small : Forest → Spot → Type 0
Small f p = base_of f p < 256

module _ (f : Forest) (below : AreBelow256 f) where
  pub node_small : (x : ℕ) → Small f (Node x)
  node_small x = by (member f x) refl
    where
      by : (o : Option Member) → member f x ≡ o → option_map_or (λ m. m.begin) (member f x) 0 < 256
      by None is = subst (λ o. option_map_or (λ (m : Member). m.begin) o 0 < 256) (sym is) (omega arith)
      by (Some m) is = subst (λ o. option_map_or (λ (m : Member). m.begin) o 0 < 256) (sym is) (below.begin x m is)

  pub class_small : (class : List ℕ) (p : Spot) → IsSpotOf f class p → Small f p
  class_small class p (inl is) = subst (Small f) (sym is) (omega arith)
  class_small class p (inr (begin y m here of is)) = subst (Small f) (sym is) (node_small y)
  class_small class p (inr (an_end y m e here of ends is)) = subst (Small f) (sym is) (below.end y m e here ends)

  pub small_or : (are : Spot → Type 0) → ((p : Spot) → are p → Small f p) → (x : ℕ) (p : Spot) → are p ⊎ (p ≡ Node x) → Small f p
  small_or are small x p (inl is) = small p is
  small_or are small x p (inr is) = subst (Small f) (sym is) (node_small x)
