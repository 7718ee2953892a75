-- Ranks of points: from each ranked point a least walk goes on along an edge to a point of a lower
-- rank.
use Rattle.std.specs.Prelude.{◌≡◌, ◌⊎◌, ◌++◌, ℕ, ◌<◌, ◌≤◌, List, map, length, ℤ, ◌+ℤ◌, slice_index, vec_capacity}
use Rattle.std.specs.List.{All, Contains, IsDistinct}
use Rattle.tmm_model.specs.declared.bound.Bound.TheVariants.{Finite}
use Rattle.tmm_model.specs.declared.walk.WalkStep.{WalkStep}
use Rattle.tmm_model.specs.Walks.{total}
use Rattle.walk_theory.specs.LeastWalks.{IsWalk, IsFar, points}
use Rattle.dist_net.specs.declared.Edge.{Edge}
use Rattle.dist_net.specs.Net.{Net, arcs_of, same_number}
use Rattle.neg_cycle.specs.declared.ranks.Ways.{Ways}
use Rattle.neg_cycle.specs.Ends.{IsAt}
use Rattle.dist_net.specs.Steps.{step_of}

-- there is a walk from a to b
abbrev pub HasFar : List Edge → ℕ → ℕ → Type 0
HasFar edges a b = (s : ℤ) × IsFar (arcs_of edges) a b (Finite s)

-- a least walk to b begins with the edge
abbrev pub IsTight : List Edge → ℕ → Edge → Type 0
IsTight edges b e = (t : ℤ) × IsFar (arcs_of edges) e.to b (Finite t) × IsFar (arcs_of edges) e.from b (Finite (e.weight +ℤ t))

-- a first edge of a least walk from p, to a point of a lower rank
pub record IsNext (edges : List Edge) (b : ℕ) (rank : List ℕ) (p : ℕ) (e : Edge) : Type 0 where
  pub member : Contains edges e
  pub from : e.from ≡ p
  pub tight : IsTight edges b e
  pub ranked : 0 < slice_index rank e.to
  pub lower : slice_index rank e.to < slice_index rank p

-- b is ranked, and from each other ranked point its edge leads on
pub record IsRanked (edges : List Edge) (b : ℕ) (rank first : List ℕ) : Type 0 where
  pub ranks : length rank ≡ 256
  pub firsts : length first ≡ 256
  pub at_end : 0 < slice_index rank b
  pub leads : (p : ℕ) → 0 < slice_index rank p → (p ≡ b) ⊎ ((e : Edge) × IsAt edges (slice_index first p) e × IsNext edges b rank p e)

-- the ranked points, each once, and no rank above their number
pub record AreListed (rank ranked : List ℕ) : Type 0 where
  pub distinct : IsDistinct same_number ranked
  pub some : (k : ℕ) → k < length ranked → 0 < slice_index rank (slice_index ranked k)
  pub all : (p : ℕ) → 0 < slice_index rank p → Contains ranked p
  pub low : (p : ℕ) → slice_index rank p ≤ length ranked

-- ranks, the edges that lead on to b, and the list of the ranked points, with room for all
pub record AreWays (edges : List Edge) (b : ℕ) (ways : Ways) : Type 0 where
  pub leading : IsRanked edges b ways.rank.items ways.first.items
  pub listed : AreListed ways.rank.items ways.ranked.items
  pub room : vec_capacity ways.ranked ≡ 256

-- ranks stay
abbrev pub AreKept : List ℕ → List ℕ → Type 0
AreKept old new = (p : ℕ) → 0 < slice_index old p → slice_index new p ≡ slice_index old p

-- ranks stay, and the list of the ranked points begins as before
pub record IsFurther (old new : Ways) : Type 0 where
  pub kept : AreKept old.rank.items new.rank.items
  pub longer : length old.ranked.items ≤ length new.ranked.items
  pub begins : (k : ℕ) → k < length old.ranked.items → slice_index new.ranked.items k ≡ slice_index old.ranked.items k

-- every edge to p with which a least walk to b begins is from a ranked point
abbrev pub IsVisited : List Edge → ℕ → List ℕ → ℕ → Type 0
IsVisited edges b rank p = (place : ℕ) (e : Edge) → IsAt edges place e → e.to ≡ p → IsTight edges b e → 0 < slice_index rank e.from

-- the edges lead from a to b, visit no point twice and have the least sum
pub record IsLeastPath (edges : List Edge) (a b : ℕ) (path : List Edge) : Type 0 where
  pub walk : IsWalk (arcs_of edges) a b (arcs_of path)
  pub own : All (Contains edges) path
  pub least : IsFar (arcs_of edges) a b (Finite (total (arcs_of path)))
  pub distinct : IsDistinct same_number (points (arcs_of path) b)

-- new has old's steps, and then those of a least walk from a to b
pub record AppendsPath (net : Net) (a b : ℕ) (old new : List WalkStep) : Type 0 where
  pub path : List Edge
  pub is : IsLeastPath net.edges a b path
  pub appended : new ≡ old ++ map (step_of net.names) path
