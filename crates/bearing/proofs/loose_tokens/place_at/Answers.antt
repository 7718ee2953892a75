use Rattle.std.proofs.Common.{◌≡◌, ◌∙◌, ℕ, sym, subst}
use Rattle.spots.specs.declared.spot.Spot.TheVariants.{Node}
use Rattle.spots.specs.Forest.{IsLive}
use Rattle.occ_tree.specs.Places.{forest}
use Rattle.bearing.specs.Places.{IsPlaceOf}
use Rattle.bearing.proofs.loose_tokens.place_at.Goals as goal

-- nodes of one spot are one
one_node : (x y : ℕ) → Node x ≡ Node y → x ≡ y
one_node x y e = cc

pub place_of-requires : goal.place_of-requires
place_of-requires c = let (x, live, is) = c.requires in subst (IsLive (forest c.args.tree.now)) (one_node x c.in-Node.x (sym is ∙ c.in-Node.is)) live

pub returns : goal.returns
returns c y is = subst (λ z. IsPlaceOf (forest c.args.tree.now) z c.place_of.result) (one_node c.in-Node.x y (sym c.in-Node.is ∙ is)) c.place_of.ensures
