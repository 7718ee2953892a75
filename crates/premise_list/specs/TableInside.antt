-- What holds of the fields of a table.
use Rattle.std.specs.Prelude.{◌≡◌, ◌-◌, ◌≤◌, length, map, vec_len, vec_capacity}
use Rattle.indexmap.specs.IndexMap.{spare}
use Rattle.tmm_model.specs.Standing.{points_in}
use Rattle.tmm_model.specs.Verdicts.{most_premises}
use Rattle.list_theory.specs.WellNamed.{IsWellNamed}
use Rattle.premise_list.specs.declared.table.Table.TheInside.{Inside}
use Rattle.premise_list.specs.Table.{Rows, placed, entry_seen}

-- the premises, and the room that is left for premises and for words
abbrev pub rows_of : Inside → Rows
rows_of t = record { premises = t.premises.items; places = vec_capacity t.premises - vec_len t.premises; words = spare t.words }

-- the index has the words of the premises with their places, and the points are counted
pub record IsTable (t : Inside) : Type 0 where
  pub indexed : map entry_seen t.words.entries ≡ placed 0 t.premises.items
  pub counted : t.points ≡ length (points_in t.premises.items)
  pub few : length t.premises.items ≤ most_premises
  pub well_named : IsWellNamed t.premises.items
