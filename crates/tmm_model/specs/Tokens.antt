-- Tokens that stand at spots: which of them last, support and clip, given the distances and the
-- order of spots.
use Rattle.std.specs.Prelude.{ℕ, pos, negsuc, Bool, not, ◌&&◌, List, Option, Some, None}
use Rattle.std.specs.List.{list_any}
use Rattle.tmm_model.specs.declared.bound.Bound.{Bound}
use Rattle.tmm_model.specs.declared.token.TokenRow.{TokenRow}
use Rattle.tmm_model.specs.Bounds.{bound_at_most}
use Rattle.tmm_model.specs.Points.{same_name}

-- the tokens are of two different facts of one class
abbrev pub of_one_class : {P : Type 0} → TokenRow P → TokenRow P → Bool
of_one_class k c = same_name k.class c.class && not (same_name k.fact c.fact)

module _ {P : Type 0} (far : P → P → Bound) where
  -- x is surely at or before y: in every choice of dates
  abbrev pub is_by : P → P → Bool
  is_by x y = bound_at_most (far y x) (pos 0)

  -- x is surely before y
  abbrev pub is_before : P → P → Bool
  is_before x y = bound_at_most (far y x) (negsuc 0)

-- `contradicts` tells which tokens contradict each other, `far` the tightest distance of two spots
module _ {P : Type 0} (contradicts : TokenRow P → TokenRow P → Bool) (far : P → P → Bound) where
  -- c contradicts k and surely begins after it
  abbrev pub clips : TokenRow P → TokenRow P → Bool
  clips k c = contradicts k c && is_before far k.spot c.spot

  -- it does so surely at or before q
  abbrev pub cuts : TokenRow P → P → TokenRow P → Bool
  cuts k q c = clips k c && is_by far c.spot q

  -- among the tokens, the end of k or none that clips it is at or before q
  abbrev pub lasts_to : List (TokenRow P) → TokenRow P → P → Option P → Bool
  lasts_to tokens k q (Some e) = is_before far q e
  lasts_to tokens k q None = not (list_any (cuts k q) tokens)

  -- among the tokens, k supports f throughout p to q
  abbrev pub supports : List (TokenRow P) → List ℕ → P → P → TokenRow P → Bool
  supports tokens f p q k = same_name k.fact f && is_by far k.spot p && lasts_to tokens k q k.end
