-- What nodes are ordered by.
use Rattle.std.specs.Prelude.{◌≡◌, ℕ, List, map}
use Rattle.std.specs.declared.cmp.Ordering.{Ordering}
use Rattle.dist_net.specs.Net.{Net}
use Rattle.spots.specs.Forest.{Forest, IsLive}
use Rattle.spots.specs.Spots.{node_early}
use Rattle.occ_tree.specs.Standing.{State, nodes_in}
use Rattle.occ_tree.specs.Words.{rank_in}
use Rattle.occ_tree.specs.declared.ranks.Ranked.{Ranked}

-- numbers of nodes in the order of nodes, behind all other numbers
abbrev pub rank_cmp : State → ℕ → ℕ → Ordering
rank_cmp s = rank_in (nodes_in s.rows)

-- it has the date of its node
pub record IsRanked (net : Net) (f : Forest) (r : Ranked) : Type 0 where
  pub live : IsLive f r.node
  pub early : r.early ≡ node_early net f r.node

-- the numbers of ranked nodes
abbrev pub nodes_of : List Ranked → List ℕ
nodes_of ranked = map (λ r. r.node) ranked
