-- The map of a standing list: what is built of it from scratch.
use Rattle.std.specs.Prelude.{Bool, List}
use Rattle.std.specs.List.{list_any}
use Rattle.std.specs.declared.cmp.Ordering.{Ordering}
use Rattle.tmm_model.specs.declared.bound.Bound.{Bound}
use Rattle.tmm_model.specs.declared.token.TokenRow.{TokenRow}
use Rattle.tmm_model.specs.Beliefs.{tokens, beliefs}
use Rattle.tmm_model.specs.Moments.{Moment, same_moment, Distances, distance, occ_cmp}
use Rattle.tmm_model.specs.Standing.{Standing, far_in}

-- the list, the tightest distances of its declared points, and the occurrences that are believed
pub record TimeMap : Type 0 where
  pub list : Standing
  pub far : Distances
  pub believed : List Moment

-- a map with given distances
abbrev pub map_with : Standing → Distances → TimeMap
map_with s far = record { list = s; far = far; believed = beliefs s far }

-- **The map of a standing list.**
abbrev pub built : Standing → TimeMap
built s = map_with s (far_in s.premises)

-- the tightest upper bound on the date of the second occurrence less that of the first
abbrev pub gap : TimeMap → Moment → Moment → Bound
gap m = distance m.list m.far

-- by the earliest date, and then by the bytes of the word
abbrev pub order : TimeMap → Moment → Moment → Ordering
order m = occ_cmp m.list m.far

-- the tokens among the believed occurrences
abbrev pub believed_tokens : TimeMap → List (TokenRow Moment)
believed_tokens m = tokens m.list m.believed

-- whether the moment is one of these
abbrev pub is_among : List Moment → Moment → Bool
is_among xs x = list_any (same_moment x) xs

-- whether an occurrence is believed
abbrev pub is_believed : TimeMap → Moment → Bool
is_believed m x = is_among m.believed x
