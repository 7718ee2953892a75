-- A small forest, as the tests use it: 0 with 1 and 2 below it, 3 and 4 below 1; and 5 alone.
use Rattle.std.specs.Prelude.{ℕ, zero, suc, List, [], ◌∷◌, slice_index_or}
use Rattle.std.proofs.Common.{refl, arith}
use Rattle.ancestors.specs.Ways.{IsNode, EndsWith}

-- the ways of its nodes
abbrev pub ways : List (List ℕ)
ways = (0 ∷ []) ∷ (0 ∷ 1 ∷ []) ∷ (0 ∷ 2 ∷ []) ∷ (0 ∷ 1 ∷ 3 ∷ []) ∷ (0 ∷ 1 ∷ 4 ∷ []) ∷ (5 ∷ []) ∷ []

-- the way of a node
abbrev pub way_to : ℕ → List ℕ
way_to x = slice_index_or ways x []

-- what holds of its six nodes holds of each
pub each_node : (P : ℕ → Type 0) → P 0 → P 1 → P 2 → P 3 → P 4 → P 5 → (x : ℕ) → IsNode way_to x → P x
each_node P a b c d e f zero node = a
each_node P a b c d e f (suc zero) node = b
each_node P a b c d e f (suc (suc zero)) node = c
each_node P a b c d e f (suc (suc (suc zero))) node = d
each_node P a b c d e f (suc (suc (suc (suc zero)))) node = e
each_node P a b c d e f (suc (suc (suc (suc (suc zero))))) node = f
each_node P a b c d e f (suc (suc (suc (suc (suc (suc x)))))) node = absurd (omega (arith, node))

pub ends_with : (x : ℕ) → IsNode way_to x → EndsWith (way_to x) x
ends_with = each_node (λ x. EndsWith (way_to x) x) ([], refl) (0 ∷ [], refl) (0 ∷ [], refl) (0 ∷ 1 ∷ [], refl) (0 ∷ 1 ∷ [], refl) ([], refl)
