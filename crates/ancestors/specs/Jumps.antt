-- How far up a node jumps, by its depth. Jumps of growing length are laid so that a few of them
-- lead to any depth above: if the last two jumps from the node above are equally long, a jump takes
-- both at once.
use Rattle.std.specs.Prelude.{ℕ, zero, suc, cond, eqb, ◌-◌, List, [], ◌∷◌, ◌++◌, slice_index_or}

-- the depth that is at this place of a list
abbrev pub depth_at : List ℕ → ℕ → ℕ
depth_at depths d = slice_index_or depths d 0

-- where a node right below depth d jumps, by where nodes down to depth d do
abbrev pub next_jump : List ℕ → ℕ → ℕ
next_jump depths d =
    let first = depth_at depths d in
    let second = depth_at depths first in
    cond (eqb (d - first) (first - second)) second d

-- the depths to which nodes of the depths 0, 1, .. d jump; a root stays where it is
abbrev pub jump_depths : ℕ → List ℕ
jump_depths zero = 0 ∷ []
jump_depths (suc d) = jump_depths d ++ next_jump (jump_depths d) d ∷ []

-- the depth to which a node of depth d jumps
abbrev pub jump_depth : ℕ → ℕ
jump_depth d = depth_at (jump_depths d) d
