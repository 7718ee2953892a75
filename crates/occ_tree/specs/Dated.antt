-- Dates that are those of a network.
use Rattle.std.specs.Prelude.{◌≡◌, ◌⊎◌, ℕ, ℤ, ◌+ℤ◌, List, [], ◌∷◌, ◌++◌, Option, Some, None, IsSome}
use Rattle.std.specs.Option.{option_map_or}
use Rattle.row_links.specs.Lists.{IsOn, AreOnce}
use Rattle.tmm_model.specs.Moments.{negated}
use Rattle.dist_net.specs.Net.{Net}
use Rattle.spots.specs.Forest.{Member, IsLive}
use Rattle.spots.specs.OfLists.{HasList}
use Rattle.spots.specs.Spots.{IsSpot, net_far, links_low, node_early}
use Rattle.spots.specs.declared.spot.Spot.{Spot}
use Rattle.occ_tree.specs.declared.node.Node.{Node}
use Rattle.occ_tree.specs.Below.{IsBelow}
use Rattle.occ_tree.specs.Nodes.{Nodes, forest_in, date_in}
use Rattle.occ_tree.specs.Standing.{State, Kept, present, committed, forest, early, below, IsChildOf}

-- the date that is kept of each node is its earliest date in the network
abbrev pub IsDatedBy : Net → State → Type 0
IsDatedBy net s = (x : ℕ) → IsLive (forest s) x → early s x ≡ node_early net (forest s) x

-- The spot is there, the nodes and the network are those of a list, and the dates of the nodes are
-- those of the network.
abbrev pub IsKnown : Net → State → Spot → Type 0
IsKnown net s p = HasList net (forest s) × IsDatedBy net s × IsSpot net.names (forest s) p

-- **Each node has its earliest date in the network.** All else stays, in its order, and so does the
-- last commit.
pub record DatesAll (net : Net) (old new : Kept) : Type 0 where
  pub dated : IsDatedBy net (present new)
  pub nodes : (y : ℕ) → forest (present new) y ≡ forest (present old) y
  pub lists : (parent : Option ℕ) → below (present new) parent ≡ below (present old) parent
  pub committed_is : committed new ≡ committed old

-- ---- nodes whose dates may be others

-- the earliest date of a declared point
abbrev pub point_early : Net → ℕ → ℤ
point_early net p = negated (net_far net p 0)

-- the earliest date in the network of the point from which rules lead to a node
abbrev pub base_early : Net → Nodes → ℕ → ℤ
base_early net node y = point_early net (option_map_or (λ (n : Node). n.begin) (node y) 0)

-- the date that is kept of a node is its earliest date in the network
abbrev pub IsRight : Net → Nodes → ℕ → Type 0
IsRight net node y = date_in node y ≡ node_early net (forest_in node) y

-- so are those of all nodes but some
abbrev pub AreRightBut : Net → Nodes → List ℕ → Type 0
AreRightBut net node numbers = (y : ℕ) → IsSome (node y) → (IsOn numbers y → ⊥) → IsRight net node y

-- the number is of a node that no rule leads to
abbrev pub IsRoot : Nodes → ℕ → Type 0
IsRoot node x = (n : Node) × (node x ≡ Some n) × (n.above ≡ None)

-- the root is appended, or its date is right
abbrev pub IsAppendedOrRight : Net → Nodes → ℕ → List ℕ → List ℕ → Type 0
IsAppendedOrRight net node x old new = (new ≡ old ++ x ∷ []) ⊎ ((new ≡ old) × IsRight net node x)

-- ---- roots, and what is below them

-- the date of each node is that of its root and the least delays on the way
abbrev pub DatesFollow : State → Type 0
DatesFollow s = (x y : ℕ) (b : IsBelow (forest s) x y) → b.above.links ≡ [] → early s y ≡ early s x +ℤ links_low b.below.links

-- no rule leads to those on the list of roots, which has each once, and each node is one of them or
-- below it
pub record HaveRoots (s : State) : Type 0 where
  pub once : AreOnce (below s None)
  pub roots : (x : ℕ) → IsChildOf s None x → (m : Member) × (forest s x ≡ Some m) × (m.links ≡ [])
  pub above : (y : ℕ) → IsLive (forest s) y → (x : ℕ) × IsChildOf s None x × IsBelow (forest s) x y
