-- What clips a token where tokens contradict each other in one way or another.
use Rattle.std.specs.Prelude.{◌≡◌, ℕ, Bool, true, false, not, ◌&&◌, ◌||◌, List, Option, Some, None}
use Rattle.std.specs.List.{list_any}
use Rattle.std.specs.Option.{option_map, option_and_then}
use Rattle.tmm_model.specs.declared.token.TokenRow.{TokenRow}
use Rattle.tmm_model.specs.Answers.{first_believed}
use Rattle.tmm_model.specs.Beliefs.{token_of}
use Rattle.tmm_model.specs.Maps.{TimeMap, gap}
use Rattle.tmm_model.specs.Moments.{Moment}
use Rattle.tmm_model.specs.Points.{same_name}
use Rattle.tmm_model.specs.Standing.{Standing}
use Rattle.tmm_model.specs.Tokens.{of_one_class, clips}
use Rattle.premise_list.specs.Rivalries.{is_pair_of}
use Rattle.dist_net.specs.Net.{Net}
use Rattle.spots.specs.Forest.{Forest, moment_at}
use Rattle.spots.specs.OfLists.{IsForestOf, HasOccurrences, map_of}
use Rattle.supports.specs.ClassTokens.{other_in}

-- the fact that a pair sets against this one
abbrev pub rival_in : List ℕ → List ℕ × List ℕ → Option (List ℕ)
rival_in fact pair = option_and_then (λ other. elim (same_name other fact) [ true ↦ None | false ↦ Some other ]) (other_in fact pair)

-- one class declares both facts, or one of these pairs is of them
abbrev pub of_pairs : {P : Type 0} → List (List ℕ × List ℕ) → TokenRow P → TokenRow P → Bool
of_pairs pairs k c = of_one_class k c || (not (same_name k.fact c.fact) && list_any (is_pair_of k.fact c.fact) pairs)

-- the first believed token that clips k, where tokens contradict each other so; none for a span
abbrev pub clip_by : (TokenRow Moment → TokenRow Moment → Bool) → TimeMap → TokenRow Moment → Option Moment
clip_by contradicts m k = elim k.end [ Some e ↦ None | None ↦ first_believed m (clips contradicts (gap m) k) ]

-- it is what clips the node so, where nodes and network are those of the list
abbrev pub IsClipBy : (TokenRow Moment → TokenRow Moment → Bool) → Standing → Net → Forest → ℕ → Option ℕ → Type 0
IsClipBy contradicts s net f x found =
    (b : List Moment) → IsForestOf s net f → HasOccurrences b f → option_map (moment_at f) found ≡ option_and_then (clip_by contradicts (map_of s b)) (token_of s (moment_at f x))
