-- Points that few edges lead to or from, whose distances are found at once.
use Rattle.std.specs.Prelude.{◌≢◌, ℕ, ◌<◌, List, length}
use Rattle.std.specs.List.{All, Contains}
use Rattle.tmm_model.specs.declared.bound.Bound.{Bound}
use Rattle.walk_theory.specs.LeastWalks.{IsFar}
use Rattle.dist_net.specs.Net.{Net, arcs_of}
use Rattle.dist_repair.specs.Rows.{rest_of, IsFrom, IsTo}

-- the edge at j is another one than that at the place, and begins at u
pub record IsWayOut (net : Net) (place u j : ℕ) : Type 0 where
  pub below : j < length net.edges
  pub other : j ≢ place
  pub from : IsFrom net j u

-- no edge leads to u, and the list has the places of the other edges that begin there
pub record AreWaysOut (net : Net) (place u : ℕ) (list : List ℕ) : Type 0 where
  pub none : (j : ℕ) → j < length net.edges → IsTo net j u → ⊥
  pub ways : All (IsWayOut net place u) list
  pub all : (j : ℕ) → IsWayOut net place u j → Contains list j

-- the distance from u to the end of the edge at j is that over the edges that are left
abbrev pub KeepsEnd : Net → ℕ → ℕ → ℕ → Type 0
KeepsEnd net place u j = (q : ℕ) (x : Bound) → IsTo net j q → IsFar (arcs_of net.edges) u q x → IsFar (rest_of net place) u q x

-- the edge at the place, which begins at u, alone leads to its end, another point, and without it
-- the distance stays from u to where an edge from that end leads
pub record IsWayIn (net : Net) (place u : ℕ) : Type 0 where
  pub apart : IsTo net place u → ⊥
  pub alone : (v j : ℕ) → IsTo net place v → j < length net.edges → j ≢ place → IsTo net j v → ⊥
  pub on : (v j : ℕ) → IsTo net place v → j < length net.edges → j ≢ place → IsFrom net j v → KeepsEnd net place u j
