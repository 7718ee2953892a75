-- Rows of believed occurrences, by their nodes.
use Rattle.std.specs.Prelude.{◌≡◌, ℕ, List, [], Option, IfSome, nat_eq}
use Rattle.std.specs.List.{All, Contains, IsDistinct}
use Rattle.std.specs.List.Sorted.{IsStrictlySortedBy}
use Rattle.std.specs.Option.{option_map, option_map_or}
use Rattle.tmm_model.specs.Answers.{Row}
use Rattle.dist_net.specs.Net.{Net}
use Rattle.spots.specs.Forest.{Forest, member, IsLive, moment_at, IsOnce}
use Rattle.spots.specs.Spots.{node_cmp}
use Rattle.occ_tree.specs.declared.ranks.Ranked.{Ranked}
use Rattle.occ_tree.specs.Ranks.{IsRanked, nodes_of}
use Rattle.belief_list.specs.declared.list.BeliefRow.{BeliefRow}

-- the kind or fact of a node
abbrev pub what_at : Forest → ℕ → List ℕ
what_at f x = option_map_or (λ m. m.what) (member f x) []

-- the row of a node with what clips it
abbrev pub belief_row : Ranked × Option ℕ → BeliefRow
belief_row (r, clip) = record { node = r.node; early = r.early; clip = clip }

-- the row of a node, told of its occurrence
abbrev pub row_at : Forest → BeliefRow → Row
row_at f r = record { date = r.early; occ = moment_at f r.node; what = what_at f r.node; clip = option_map (moment_at f) r.clip }

-- a node stands under each number that the row has
pub record IsLiveRow (f : Forest) (r : BeliefRow) : Type 0 where
  pub node : IsLive f r.node
  pub clip : IfSome r.clip (IsLive f)

-- these are all nodes in their order, each once and with its date
pub record AreAllRanked (net : Net) (f : Forest) (ranked : List Ranked) : Type 0 where
  pub live : All (IsLive f) (nodes_of ranked)
  pub all : (x : ℕ) → IsLive f x → Contains (nodes_of ranked) x
  pub once : IsDistinct nat_eq (nodes_of ranked)
  pub in_order : IsStrictlySortedBy (node_cmp net f) (nodes_of ranked)
  pub dates : All (IsRanked net f) ranked

-- **The rows list the nodes**: each node has one row, and no occurrence is two nodes.
pub record IsListing (f : Forest) (rows : List BeliefRow) : Type 0 where
  pub live : All (IsLiveRow f) rows
  pub all : (x : ℕ) → IsLive f x → (r : BeliefRow) × Contains rows r × (r.node ≡ x)
  pub once : (r q : BeliefRow) → Contains rows r → Contains rows q → r.node ≡ q.node → r ≡ q
  pub apart : IsOnce f
