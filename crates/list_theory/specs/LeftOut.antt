-- What an edit takes out of a list.
use Rattle.std.specs.Prelude.{◌≡◌, ℕ, List, map, filter}
use Rattle.std.specs.Option.{is_none}
use Rattle.tmm_model.specs.Standing.{Standing, name_of, premise_in}

-- the names are those of the premises of the first list that are not in the second, in their order
abbrev pub IsLeftOut : Standing → Standing → List (List ℕ) → Type 0
IsLeftOut old new names = names ≡ filter (λ name. is_none (premise_in new.premises name)) (map name_of old.premises)
