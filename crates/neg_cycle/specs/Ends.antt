-- The edges of a network by the points that they lead to.
use Rattle.std.specs.Prelude.{◌≡◌, ℕ, ◌-◌, ◌<◌, ◌≤◌, List, length, slice_index, slice_index_or}
use Rattle.dist_net.specs.declared.Edge.{Edge}

-- the edge stands at the place
abbrev pub IsAt : List Edge → ℕ → Edge → Type 0
IsAt edges place e = (place < length edges) × (slice_index_or edges place e ≡ e)

-- an edge to the point stands at the place
abbrev pub HasTo : List Edge → ℕ → ℕ → Type 0
HasTo edges place p = (e : Edge) × IsAt edges place e × (e.to ≡ p)

-- k is one more than the place of the last of the first n edges that leads to p, or 0 where none does
pub record IsLastTo (edges : List Edge) (n p k : ℕ) : Type 0 where
  pub below : k ≤ n
  pub leads : 0 < k → HasTo edges (k - 1) p
  pub last : (j : ℕ) (e : Edge) → j < n → IsAt edges j e → e.to ≡ p → j < k

-- the last edge to each point, and before each edge the last to the same point
pub record AreByEnd (edges : List Edge) (last before : List ℕ) : Type 0 where
  pub points : length last ≡ 256
  pub places : length before ≡ length edges
  pub last_to : (p : ℕ) → IsLastTo edges (length edges) p (slice_index last p)
  pub before_it : (i : ℕ) (e : Edge) → IsAt edges i e → IsLastTo edges i e.to (slice_index before i)
