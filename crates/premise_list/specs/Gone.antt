-- Lists of names of which only the members matter.
use Rattle.std.specs.Prelude.{ℕ, ◌≡◌, List}
use Rattle.tmm_model.specs.Erasure.{is_among}

-- the same names are in both
abbrev pub SameNames : List (List ℕ) → List (List ℕ) → Type 0
SameNames a b = (name : List ℕ) → is_among a name ≡ is_among b name
