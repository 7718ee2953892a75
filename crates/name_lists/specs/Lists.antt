-- Lists under names.
use Rattle.std.specs.Prelude.{◌≡◌, ◌≢◌, ℕ, List, [], ◌∷◌, ◌++◌}
use Rattle.std.specs.Option.{option_map_or}
use Rattle.std.specs.Map.{lookup}
use Rattle.tmm_model.specs.Points.{same_name}
use Rattle.name_lists.specs.declared.NameLists.{NameLists}

-- the list under a name, empty where nothing has come under it
abbrev pub list_of : {T : Type 0} → NameLists T → List ℕ → List T
list_of l name = option_map_or (λ v. v.items) (lookup (same_name name) l.lists.entries) []

-- under its name the element stands behind the others, and all else stays
pub record Appends {T : Type 0} (old new : List ℕ → List T) (name : List ℕ) (element : T) : Type 0 where
  pub own : new name ≡ old name ++ element ∷ []
  pub others : (other : List ℕ) → other ≢ name → new other ≡ old other
