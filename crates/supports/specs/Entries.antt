-- The tokens of a class under the nodes above them.
use Rattle.std.specs.Prelude.{◌≡◌, ◌⊎◌, ℕ, ◌<◌, ◌≤◌, List, [], None, length, slice_index_or}
use Rattle.std.specs.List.{All, Contains}
use Rattle.tmm_model.specs.declared.token.TokenRow.{TokenRow}
use Rattle.spots.specs.declared.spot.Spot.{Spot}
use Rattle.spots.specs.declared.spot.Spot.TheVariants.{Node}
use Rattle.spots.specs.Forest.{Forest, IsLive}
use Rattle.occ_tree.specs.Tokens.{number_of}
use Rattle.supports.specs.declared.entries.Entry.{Entry}
use Rattle.supports.specs.declared.branches.Branches.{Branches}
use Rattle.supports.specs.Under.{IsUnder, IsRootOf}

-- what is read beyond the end
abbrev pub no_row : TokenRow Spot
no_row = record { spot = Node 0; end = None; fact = []; class = [] }

abbrev pub no_entry : Entry
no_entry = record { node = 0; place = 0 }

-- the token at a place, its node and its fact
abbrev pub row_at : List (TokenRow Spot) → ℕ → TokenRow Spot
row_at rows i = slice_index_or rows i no_row

abbrev pub node_at : List (TokenRow Spot) → ℕ → ℕ
node_at rows i = number_of (row_at rows i).spot

abbrev pub fact_at : List (TokenRow Spot) → ℕ → List ℕ
fact_at rows i = (row_at rows i).fact

-- the entry at a place
abbrev pub entry_at : List Entry → ℕ → Entry
entry_at entries i = slice_index_or entries i no_entry

-- an entry for each token and each node that it is under
pub record AreEntries (f : Forest) (rows : List (TokenRow Spot)) (entries : List Entry) : Type 0 where
  pub own : All (λ e. (e.place < length rows) × IsUnder f e.node (node_at rows e.place)) entries
  pub all : (x i : ℕ) → i < length rows → IsUnder f x (node_at rows i) → Contains entries (record { node = x; place = i })

-- they stand by their nodes, and those of one node by the places of their tokens
abbrev pub AreSorted : List Entry → Type 0
AreSorted entries =
    (i j : ℕ) → i < j → j < length entries
    → ((entry_at entries i).node < (entry_at entries j).node) ⊎ (((entry_at entries i).node ≡ (entry_at entries j).node) × ((entry_at entries i).place ≤ (entry_at entries j).place))

-- the entries are of one node, and their tokens of one fact
abbrev pub AreAlike : List (TokenRow Spot) → Entry → Entry → Type 0
AreAlike rows a b = (a.node ≡ b.node) × (fact_at rows a.place ≡ fact_at rows b.place)

-- from i on up to the place n the entries are like the one at i, and the one at n is not
pub record IsSkip (rows : List (TokenRow Spot)) (entries : List Entry) (i n : ℕ) : Type 0 where
  pub after : i < n
  pub within : n ≤ length entries
  pub alike : (j : ℕ) → i ≤ j → j < n → AreAlike rows (entry_at entries i) (entry_at entries j)
  pub other : n < length entries → AreAlike rows (entry_at entries i) (entry_at entries n) → ⊥

-- beside each entry from the place n on stands where the first comes that is not like it
pub record AreSkipsFrom (rows : List (TokenRow Spot)) (entries : List Entry) (skips : List ℕ) (n : ℕ) : Type 0 where
  pub count : length skips ≡ length entries
  pub each : (i d : ℕ) → n ≤ i → i < length entries → IsSkip rows entries i (slice_index_or skips i d)

-- it stands beside each
abbrev pub HaveSkips : List (TokenRow Spot) → List Entry → List ℕ → Type 0
HaveSkips rows entries skips = AreSkipsFrom rows entries skips 0

-- these are nodes, and among them is the root of each token
pub record HaveRoots (f : Forest) (rows : List (TokenRow Spot)) (roots : List ℕ) : Type 0 where
  pub live : All (IsLive f) roots
  pub all : (i : ℕ) → i < length rows → (x : ℕ) × Contains roots x × IsRootOf f x (node_at rows i)

-- the entries, the skips and the roots are those of the tokens
pub record AreBranches (f : Forest) (rows : List (TokenRow Spot)) (b : Branches) : Type 0 where
  pub entries : AreEntries f rows b.entries.items
  pub sorted : AreSorted b.entries.items
  pub skips : HaveSkips rows b.entries.items b.skips.items
  pub roots : HaveRoots f rows b.roots.items
