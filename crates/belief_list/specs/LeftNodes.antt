-- The occurrences of nodes that are gone.
use Rattle.std.specs.Prelude.{◌≡◌, ℕ, true, false, List, map, Option, Some, None}
use Rattle.std.specs.List.{Contains}
use Rattle.tmm_model.specs.Moments.{Moment, is_derived, moment_of}
use Rattle.spots.specs.Forest.{Forest, member, IsLive, moment_at}
use Rattle.belief_list.specs.declared.left_nodes.LeftNode.{LeftNode}

-- the number is of a node of the old forest, and of none of the new one
abbrev pub IsGone : Forest → Forest → ℕ → Type 0
IsGone old new x = IsLive old x × (member new x ≡ None)

-- **The occurrences of nodes that are gone**: each derived one is told, and what is told of such a
-- node is its occurrence.
pub record AreWords (old new : Forest) (left : List LeftNode) : Type 0 where
  pub all : (x : ℕ) → IsGone old new x → is_derived (moment_at old x) ≡ true → Contains (map (λ n. n.node) left) x
  pub own : (n : LeftNode) → Contains left n → IsGone old new n.node → moment_of n.occ.now ≡ moment_at old n.node

-- the occurrence, if a rule brings it about
abbrev pub if_derived : Moment → Option Moment
if_derived k = elim (is_derived k) [ true ↦ Some k | false ↦ None ]
