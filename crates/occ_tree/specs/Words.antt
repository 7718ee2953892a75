-- Words of occurrences, and the order of nodes by their dates and words.
use Rattle.std.specs.Prelude.{ℕ, Bool, true, false, List, [], ◌∷◌, ◌++◌, map, drop}
use Rattle.std.specs.declared.cmp.Ordering.{Ordering}
use Rattle.std.specs.Option.{is_some}
use Rattle.std.specs.Ordering.{bool_cmp, int_cmp, nat_cmp, on, then_cmp}
use Rattle.std.specs.Cmp.Lexicographic.{slice_cmp}
use Rattle.tmm_model.specs.Moments.{printed}
use Rattle.tmm_model.specs.Points.{slashed}
use Rattle.spots.specs.Forest.{moment_at}
use Rattle.occ_tree.specs.Nodes.{Nodes, name_at, forest_in, date_in, way_to}

-- the word of a node, as it is printed
abbrev pub word_in : Nodes → ℕ → List ℕ
word_in node x = printed (moment_at (forest_in node) x)

-- nodes by their earliest dates, and then by the bytes of their words
abbrev pub node_cmp : Nodes → ℕ → ℕ → Ordering
node_cmp node = then_cmp (on (date_in node) int_cmp) (on (word_in node) (slice_cmp nat_cmp))

-- numbers of nodes in the order of nodes, behind all other numbers
abbrev pub rank_in : Nodes → ℕ → ℕ → Ordering
rank_in node = then_cmp (on (λ x. is_some (node x)) bool_cmp) (node_cmp node)

-- names with `/` between them
abbrev pub joined : List (List ℕ) → List ℕ
joined [] = []
joined (name ∷ names) = name ++ slashed names

-- `/`, where there is more
abbrev pub slash_if : Bool → List ℕ
slash_if true = 47 ∷ []
slash_if false = []

-- the first of some names, and `/` where there are more
abbrev pub first_piece : List (List ℕ) → List ℕ
first_piece [] = []
first_piece (p ∷ []) = p
first_piece (p ∷ (q ∷ names)) = p ++ 47 ∷ []

-- what stands in a word behind so many names: the next name, and `/` where there are more
abbrev pub piece_at : Nodes → ℕ → ℕ → List ℕ
piece_at node x k = first_piece (map (name_at node) (drop k (way_to node x).numbers))
