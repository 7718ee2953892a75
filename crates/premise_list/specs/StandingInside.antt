-- What holds of the fields of a `Standing`.
use Rattle.std.specs.Prelude.{◌≡◌, ◌≤◌, List, length, map}
use Rattle.tmm_model.specs.declared.premise.Premise.{Premise}
use Rattle.tmm_model.specs.Verdicts.{most_premises, words_known}
use Rattle.list_theory.specs.WellNamed.{IsWellNamed}
use Rattle.premise_list.specs.declared.standing.Standing.TheInside.{Inside}
use Rattle.premise_list.specs.Past.{committed_from, taken_premise, Stands}
use Rattle.premise_list.specs.Rivalries.{rivalries}
use Rattle.premise_list.specs.States.{States}

-- the premises of the last commit
abbrev pub committed_premises : Inside → List Premise
committed_premises s = committed_from s.past s.table.premises

-- the present list, and that of the last commit
abbrev pub states_of : Inside → States
states_of s = record {
  present = record { version = s.version; horizon = s.horizon; premises = s.table.premises };
  committed = record { version = s.committed_version; horizon = s.committed_horizon; premises = committed_premises s };
}

-- The present list has room to become the one of the last commit.
pub record IsStanding (s : Inside) : Type 0 where
  pub stands : Stands s.past s.table.premises
  pub places : length s.past.taken.items ≤ s.table.places
  pub words : length (words_known (map taken_premise s.past.taken.items)) ≤ s.table.words
  -- what the list of the last commit was when it was the present one
  pub few : length (committed_premises s) ≤ most_premises
  pub well_named : IsWellNamed (committed_premises s)
  -- the facts that premises of each list set against each other
  pub rivals : s.rivalries.present ≡ rivalries s.table.premises
  pub rivals_before : s.rivalries.committed ≡ rivalries (committed_premises s)
