-- The first of the tokens of a class that clips one.
use Rattle.std.specs.Prelude.{◌≡◌, ◌≢◌, ◌⊎◌, ℕ, ℤ, pos, ◌-ℤ◌, ◌<ℤ◌, ◌≤ℤ◌, ◌<◌, ◌≤◌, List, length, true, min, Option, Some, None, MatchOption}
use Rattle.std.specs.List.{Contains}
use Rattle.tmm_model.specs.declared.token.TokenRow.{TokenRow}
use Rattle.tmm_model.specs.Bounds.{bound_at_most}
use Rattle.tmm_model.specs.Tokens.{of_one_class, clips}
use Rattle.dist_net.specs.Net.{Net}
use Rattle.spots.specs.declared.spot.Spot.{Spot}
use Rattle.spots.specs.declared.spot.Spot.TheVariants.{Node}
use Rattle.spots.specs.Forest.{Forest}
use Rattle.spots.specs.Spots.{spot_distance, node_early}
use Rattle.supports.specs.declared.entries.Entry.{Entry}
use Rattle.supports.specs.Under.{IsUnder}
use Rattle.supports.specs.Entries.{row_at, node_at, fact_at, entry_at}

-- the first number of which something holds, none exactly where it holds of none
abbrev pub IsFirstOf : (ℕ → Type 0) → Option ℕ → Type 0
IsFirstOf P found = MatchOption found ((i : ℕ) → P i → ⊥) (λ i. P i × ((j : ℕ) → P j → i ≤ j))

-- it holds of what was found, which is none of more than these
abbrev pub IsBy : (ℕ → Type 0) → ℕ → Option ℕ → Type 0
IsBy P j found = MatchOption found (P j → ⊥) (λ i. P j → i ≤ j)

-- node y begins surely behind node x as far as node z tells, under which y is: that far from z to x
-- it is before the earliest date of y
pub record IsBehindBy (net : Net) (f : Forest) (z x y : ℕ) : Type 0 where
  pub under : IsUnder f z y
  pub behind : bound_at_most (spot_distance net f (Node z) (Node x)) ((node_early net f y -ℤ node_early net f z) -ℤ pos 1) ≡ true

-- the token at i is under node z, has at least this date, and has another fact
pub record IsCandidate (net : Net) (f : Forest) (rows : List (TokenRow Spot)) (z : ℕ) (least : ℤ) (fact : List ℕ) (i : ℕ) : Type 0 where
  pub within : i < length rows
  pub under : IsUnder f z (node_at rows i)
  pub date : least ≤ℤ node_early net f (node_at rows i)
  pub other : fact_at rows i ≢ fact

-- the token at j is of another fact than the one at i, and surely behind it as far as node z tells
pub record IsOtherBehind (net : Net) (f : Forest) (rows : List (TokenRow Spot)) (z i j : ℕ) : Type 0 where
  pub within : j < length rows
  pub by : IsBehindBy net f z (node_at rows i) (node_at rows j)
  pub other : fact_at rows j ≢ fact_at rows i

-- the token at j is so as far as one of some nodes tells
pub record IsOtherBehindAny (net : Net) (f : Forest) (rows : List (TokenRow Spot)) (nodes : List ℕ) (i j : ℕ) : Type 0 where
  pub node : ℕ
  pub among : Contains nodes node
  pub by : IsOtherBehind net f rows node i j

-- the token at j clips the one at i
abbrev pub IsClipper : Net → Forest → List (TokenRow Spot) → ℕ → ℕ → Type 0
IsClipper net f rows i j = (j < length rows) × (clips of_one_class (spot_distance net f) (row_at rows i) (row_at rows j) ≡ true)

-- the entry comes before those of a node's tokens that have at least this date
abbrev pub IsBefore : Net → Forest → List (TokenRow Spot) → ℕ → ℤ → Entry → Type 0
IsBefore net f rows z least e = (e.node < z) ⊎ ((e.node ≡ z) × (node_early net f (node_at rows e.place) <ℤ least))

-- the first n entries are those before them
pub record AreBefore (net : Net) (f : Forest) (rows : List (TokenRow Spot)) (z : ℕ) (least : ℤ) (entries : List Entry) (n : ℕ) : Type 0 where
  pub within : n ≤ length entries
  pub first : (i : ℕ) → i < n → IsBefore net f rows z least (entry_at entries i)
  pub rest : (i : ℕ) → n ≤ i → i < length entries → IsBefore net f rows z least (entry_at entries i) → ⊥

-- the lesser of two numbers, each none where there is none
abbrev pub IsSooner : Option ℕ → Option ℕ → Option ℕ → Type 0
IsSooner None b c = c ≡ b
IsSooner (Some x) None c = c ≡ Some x
IsSooner (Some x) (Some y) c = c ≡ Some (min x y)

-- n is the place from `from` on behind the entries of a node whose tokens are of a fact, as far as
-- such stand there
pub record IsPast (rows : List (TokenRow Spot)) (entries : List Entry) (from z : ℕ) (fact : List ℕ) (n : ℕ) : Type 0 where
  pub after : from ≤ n
  pub within : from ≤ length entries → n ≤ length entries
  pub passed : (i : ℕ) → from ≤ i → i < n → ((entry_at entries i).node ≡ z) × (fact_at rows (entry_at entries i).place ≡ fact)
  pub next : n < length entries → (entry_at entries n).node ≡ z → fact_at rows (entry_at entries n).place ≢ fact
