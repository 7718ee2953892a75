-- Laws of edits: what they do to the occurrences.
use Rattle.std.specs.Prelude.{◌≡◌, ℕ, ℤ, Option, Some}
use Rattle.spots.specs.Forest.{Member, Enters, Withdraws}
use Rattle.occ_tree.specs.Edits.{Grows, Shrinks}
use Rattle.occ_tree.specs.Standing.{State, forest}

-- a new node enters among the occurrences
abbrev pub GrowingEnters : Type 0
GrowingEnters =
    (old new : State) (x : ℕ) (m : Member) (parent : Option ℕ) (date : ℤ) → Grows old new x m parent date → Enters (forest old) (forest new) x m

-- **A node that goes is withdrawn from the occurrences with all that its rules lead to.**
abbrev pub ShrinkingWithdraws : Type 0
ShrinkingWithdraws = (old new : State) (x : ℕ) (m : Member) → forest old x ≡ Some m → Shrinks old new x → Withdraws (forest old) (forest new) m
