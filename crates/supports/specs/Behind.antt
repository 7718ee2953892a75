-- Tokens that stand behind a node in the order, and what clips it.
use Rattle.std.specs.Prelude.{MatchOption, ◌≡◌, ℕ, Bool, true, false, List, [], ◌∷◌, ◌++◌, length, ◌<◌, Option, Some, None, slice_index_or}
use Rattle.std.specs.Option.{option_map, option_and_then}
use Rattle.tmm_model.specs.declared.token.TokenRow.{TokenRow}
use Rattle.tmm_model.specs.Answers.{clip}
use Rattle.tmm_model.specs.Moments.{Moment}
use Rattle.tmm_model.specs.Points.{same_name}
use Rattle.tmm_model.specs.Standing.{Standing}
use Rattle.clipping.specs.Lasts.{IsLast}
use Rattle.clipping.specs.Stretches.{rows_of, HaveStretches}
use Rattle.clipping.specs.declared.stretches.Stretched.{Stretched}
use Rattle.dist_net.specs.Net.{Net}
use Rattle.spots.specs.declared.spot.Spot.{Spot}
use Rattle.spots.specs.declared.spot.Spot.TheVariants.{Node}
use Rattle.spots.specs.Forest.{Forest, member, moment_at}
use Rattle.spots.specs.OfLists.{IsForestOf, HasOccurrences, map_of}
use Rattle.spots.specs.Spots.{token_row}

-- the token that the node is; none for an event
abbrev pub token_at : Forest → ℕ → Option (TokenRow Spot)
token_at f x = option_and_then (token_row x) (member f x)

-- the token, where it is of the class
abbrev pub of_class : List ℕ → Option (TokenRow Spot) → List (TokenRow Spot)
of_class class None = []
of_class class (Some row) = elim (same_name class row.class) [ true ↦ row ∷ [] | false ↦ [] ]

-- the tokens of a class among nodes, that of the first node last
abbrev pub rows_behind : Forest → List ℕ → List ℕ → List (TokenRow Spot)
rows_behind f class [] = []
rows_behind f class (x ∷ xs) = rows_behind f class xs ++ of_class class (token_at f x)

-- under each class stand its tokens among the nodes, that of the first node last, and beside each
-- where the stretch of tokens of its fact begins that goes up to it
abbrev pub AreBehind : Forest → List ℕ → (List ℕ → List (Stretched Spot)) → Type 0
AreBehind f xs behind = (class : List ℕ) → (rows_of (behind class) ≡ rows_behind f class xs) × HaveStretches (behind class)

-- it is the node of the last of the tokens that pass, none exactly where none does
abbrev pub IsLastNode : (TokenRow Spot → Bool) → List (TokenRow Spot) → Option ℕ → Type 0
IsLastNode test rows found =
    MatchOption found ((k : ℕ) (d : TokenRow Spot) → k < length rows → test (slice_index_or rows k d) ≡ false)
    (λ x. (i : ℕ) × IsLast test rows i × ((d : TokenRow Spot) → (slice_index_or rows i d).spot ≡ Node x))

-- it is what clips the node, where nodes and network are those of the list
abbrev pub IsClip : Standing → Net → Forest → ℕ → Option ℕ → Type 0
IsClip s net f x found =
    (b : List Moment) → IsForestOf s net f → HasOccurrences b f → option_map (moment_at f) found ≡ clip (map_of s b) (moment_at f x)
