-- The map that agents share, and the edits that each of them holds.
use Rattle.std.specs.Prelude.{ℕ, List, []}
use Rattle.tmm_model.specs.Edits.{upgraded}
use Rattle.tmm_model.specs.Standing.{Standing, empty_list}
use Rattle.agents.specs.declared.batches.Held.{Held}

-- the edits that an agent holds, each with the number of its line, the first of them first
pub record Batch : Type 0 where
  pub agent : List ℕ
  pub edits : List Held

-- the list of the shared map, and the batches of the agents that hold some edit
pub record World : Type 0 where
  pub list : Standing
  pub batches : List Batch

-- what a script begins with: the empty list of version 2, and no edit held
abbrev pub first_world : World
first_world = record { list = upgraded empty_list; batches = [] }
