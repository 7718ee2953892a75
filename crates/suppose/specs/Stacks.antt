-- The world that a stack of maps is.
use Rattle.std.specs.Prelude.{◌≡◌, ◌≤◌, All, Option, None, map, reverse, length}
use Rattle.tmm_model.specs.Standing.{Standing}
use Rattle.suppose.specs.declared.stack.Stack.{Stack}
use Rattle.suppose.specs.Worlds.{World, most_suppositions}

module _ {M : Type 0} where
  -- its world, by the list of each map
  abbrev pub world_of : (M → Standing) → Stack M → World
  world_of list s = record { top = list s.top; below = reverse (map list s.below.items) }

  -- at most 8 suppositions stand, and no edit is pending
  pub record IsSettled (pending : M → Option Standing) (s : Stack M) : Type 0 where
    pub few : length s.below.items ≤ most_suppositions
    pub below : All (λ m. pending m ≡ None) s.below.items
    pub top : pending s.top ≡ None
