-- Spots in time: declared points by their numbers, and the begins of nodes. Their distances and
-- their order.
use Rattle.std.specs.Prelude.{◌≡◌, ◌≢◌, ℕ, ℤ, pos, ◌+ℤ◌, true, false, List, [], ◌∷◌, Option, Some}
use Rattle.std.specs.Option.{option_map, option_map_or}
use Rattle.std.specs.List.{All, Contains}
use Rattle.std.specs.declared.cmp.Ordering.{Ordering}
use Rattle.std.specs.declared.cmp.Ordering.TheVariants.{Less, Greater}
use Rattle.std.specs.Ordering.{int_cmp, nat_cmp, on, then_cmp}
use Rattle.std.specs.Cmp.Lexicographic.{slice_cmp}
use Rattle.tmm_model.specs.declared.bound.Bound.{Bound}
use Rattle.tmm_model.specs.declared.bound.Bound.TheVariants.{Finite}
use Rattle.tmm_model.specs.declared.token.TokenRow.{TokenRow}
use Rattle.tmm_model.specs.Bounds.{bound_plus, bound_less}
use Rattle.tmm_model.specs.Moments.{Moment, At, negated, printed}
use Rattle.tmm_model.specs.Points.{same_name}
use Rattle.tmm_model.specs.Walks.{far}
use Rattle.dist_net.specs.Net.{Net, arcs_of, same_number, points_in_use, IsInUse}
use Rattle.net_theory.specs.Represents.{Names, name_at}
use Rattle.spots.specs.declared.link.Link.{Link}
use Rattle.spots.specs.declared.spot.Spot.{Spot}
use Rattle.spots.specs.declared.spot.Spot.TheVariants.{Declared, Node}
use Rattle.spots.specs.Forest.{Forest, Member, member, IsLive, moment_at}

-- the tightest distance of two numbers
abbrev pub net_far : Net → ℕ → ℕ → Bound
net_far net a b = far same_number (arcs_of net.edges) (points_in_use net.names) a b

-- ---- rules on the way

-- the least time that they take, one after the other
abbrev pub links_low : List Link → ℤ
links_low [] = pos 0
links_low (l ∷ links) = l.lo +ℤ links_low links

-- the most time that they take, none where one of them has no bound
abbrev pub links_high : List Link → Bound
links_high [] = Finite (pos 0)
links_high (l ∷ links) = bound_plus l.hi (links_high links)

-- from where u leads to where v leads, from one point: the rules that both begin with count for
-- nothing
abbrev pub links_apart : List Link → List Link → Bound
links_apart (l ∷ u) (k ∷ v) =
    elim (same_name l.rule k.rule) [
      | true ↦ links_apart u v
      | false ↦ bound_less (links_high (k ∷ v)) (links_low (l ∷ u))
    ]
links_apart u v = bound_less (links_high v) (links_low u)

-- ---- spots

-- the number of the declared point from which rules lead to the spot
abbrev pub base_of : Forest → Spot → ℕ
base_of f (Declared p) = p
base_of f (Node x) = option_map_or (λ m. m.begin) (member f x) 0

-- the rules that lead to the spot
abbrev pub links_of : Forest → Spot → List Link
links_of f (Declared p) = []
links_of f (Node x) = option_map_or (λ m. m.links) (member f x) []

-- the spot is a point in use, or a node
abbrev pub IsSpot : Names → Forest → Spot → Type 0
IsSpot names f (Declared p) = IsInUse names p
IsSpot names f (Node x) = IsLive f x

-- the moment of a spot
abbrev pub spot_moment : Names → Forest → Spot → Moment
spot_moment names f (Declared p) = At (name_at names p)
spot_moment names f (Node x) = moment_at f x

module _ (net : Net) (f : Forest) where
  -- the tightest upper bound on the date of the second spot less that of the first
  abbrev pub spot_distance : Spot → Spot → Bound
  spot_distance p q =
      elim (same_number (base_of f p) (base_of f q)) [
        | true ↦ links_apart (links_of f p) (links_of f q)
        | false ↦ bound_less (bound_plus (net_far net (base_of f p) (base_of f q)) (links_high (links_of f q))) (links_low (links_of f p))
      ]

  -- the earliest date of a node
  abbrev pub node_early : ℕ → ℤ
  node_early x = negated (spot_distance (Node x) (Declared 0))

  -- the earliest date of a spot
  abbrev pub spot_early : Spot → ℤ
  spot_early p = negated (spot_distance p (Declared 0))

  -- nodes by their earliest dates, and then by the bytes of their words
  abbrev pub node_cmp : ℕ → ℕ → Ordering
  node_cmp = then_cmp (on node_early int_cmp) (on (λ x. printed (moment_at f x)) (slice_cmp nat_cmp))

  -- nodes in their order, and then declared points by their numbers
  abbrev pub spot_cmp : Spot → Spot → Ordering
  spot_cmp (Node x) (Node y) = node_cmp x y
  spot_cmp (Node x) (Declared q) = Less
  spot_cmp (Declared p) (Node y) = Greater
  spot_cmp (Declared p) (Declared q) = nat_cmp p q

-- ---- tokens

-- the token that a node is; none for an event
abbrev pub token_row : ℕ → Member → Option (TokenRow Spot)
token_row x m = option_map (λ class. record { spot = Node x; end = option_map Declared m.end; fact = m.what; class = class }) m.class

-- no two rows are of one spot
abbrev pub AreApart : List (TokenRow Spot) → Type 0
AreApart [] = Unit {0}
AreApart (row ∷ rows) = All (λ other. other.spot ≢ row.spot) rows × AreApart rows

-- the rows are the tokens of a class among the nodes, each once
pub record AreTokens (f : Forest) (class : List ℕ) (rows : List (TokenRow Spot)) : Type 0 where
  pub own : (row : TokenRow Spot) → Contains rows row → (x : ℕ) × (m : Member) × (member f x ≡ Some m) × (token_row x m ≡ Some row) × (row.class ≡ class)
  pub all : (x : ℕ) (m : Member) (row : TokenRow Spot) → member f x ≡ Some m → token_row x m ≡ Some row → row.class ≡ class → Contains rows row
  pub once : AreApart rows

-- the same token at moments
abbrev pub row_moment : Names → Forest → TokenRow Spot → TokenRow Moment
row_moment names f k = record { spot = spot_moment names f k.spot; end = option_map (spot_moment names f) k.end; fact = k.fact; class = k.class }
