-- What is told of the occurrences that enter and leave.
use Rattle.std.specs.Prelude.{◌≡◌, ℕ, ℤ, ◌+◌, ◌≤◌, List, [], ◌∷◌, ◌++◌, map, reverse, sum_by}
use Rattle.tmm_model.specs.declared.premise.Edit.{Edit}
use Rattle.tmm_model.specs.Answers.{weight, most_size}
use Rattle.tmm_model.specs.Edits.{next_list}
use Rattle.tmm_model.specs.Maps.{built}
use Rattle.tmm_model.specs.Moments.{Moment, moment_of}
use Rattle.tmm_model.specs.Standing.{Standing}
use Rattle.list_theory.proofs.Elements.{In}
use Rattle.spots.specs.Forest.{moment_at}
use Rattle.occ_tree.specs.Places.{forest}
use Rattle.occ_tree.specs.Standing.{Kept, present, early}
use Rattle.projection.specs.Queues.{weight_at}
use Rattle.joined.specs.Telling.{IsToldOf}
use Rattle.belief_table.specs.declared.state.Beliefs.{Beliefs}
use Rattle.belief_table.specs.declared.dated.DatedOcc.{DatedOcc}
use Rattle.belief_turns.specs.declared.told.Told.{Told}
use Rattle.belief_turns.specs.Moving.{date_at}

-- the date and the occurrence that are told
abbrev pub seen_dated : DatedOcc → ℤ × Moment
seen_dated m = (m.early, moment_of m.occ)

-- the date that is kept of a node, and its occurrence
abbrev pub seen_node : Kept → ℕ → ℤ × Moment
seen_node tree x = (early (present tree) x, moment_at (forest tree) x)

-- what entered, with its dates then, the first first
abbrev pub entered_in : Told → List (ℤ × Moment)
entered_in t = map seen_dated t.entered.items

-- what left, with its dates then, the first first
abbrev pub left_in : Told → List (ℤ × Moment)
left_in t = map seen_dated t.left.items

-- the occurrences among these, the last first
abbrev pub moments_of : List (ℤ × Moment) → List Moment
moments_of moved = reverse (map (λ m. m.1) moved)

-- the occurrences that entered, the last first
abbrev pub ins : Told → List Moment
ins t = moments_of (entered_in t)

-- the occurrences that left, the last first
abbrev pub outs : Told → List Moment
outs t = moments_of (left_in t)

-- ---- right for a list

-- what entered is told with its dates in the list; its weight is the sum, and within the limit
pub record IsWeighed (s : Standing) (t : Told) : Type 0 where
  pub dated : (m : ℤ × Moment) → In m (entered_in t) → m.0 ≡ date_at s m.1
  pub weight : t.weight ≡ sum_by (weight (built s)) (ins t)
  pub small : t.weight ≤ most_size

-- what entered and left so far is told, where the nodes are these
abbrev pub IsToldBy : Standing → Edit → Beliefs → Told → Type 0
IsToldBy old edit b t = IsToldOf old (next_list old edit) (forest b.tree) (ins t) (outs t)

-- ---- steps

-- the occurrence at a node is told as one that entered
pub record TellsEntry (s : Standing) (tree : Kept) (x : ℕ) (old new : Told) : Type 0 where
  pub entered : entered_in new ≡ entered_in old ++ seen_node tree x ∷ []
  pub left : left_in new ≡ left_in old
  pub weight : new.weight ≡ old.weight + weight_at s (forest tree) x
  pub small : new.weight ≤ most_size

-- the occurrences at these nodes are told as ones that left
pub record TellsExits (tree : Kept) (numbers : List ℕ) (old new : Told) : Type 0 where
  pub entered : entered_in new ≡ entered_in old
  pub left : left_in new ≡ left_in old ++ map (seen_node tree) numbers
  pub weight : new.weight ≡ old.weight
