-- The edits that the program accepts.
use Rattle.std.specs.Prelude.{◌≡◌, ◌≤◌, None}
use Rattle.tmm_model.specs.declared.premise.Edit.{Edit}
use Rattle.tmm_model.specs.Answers.{size, most_size}
use Rattle.tmm_model.specs.Edits.{next_list}
use Rattle.tmm_model.specs.Maps.{built}
use Rattle.tmm_model.specs.Standing.{Standing, IsConsistent}
use Rattle.tmm_model.specs.Verdicts.{list_cause}

-- **An edit is accepted** where no cause among names and counts stands against it, some dates
-- satisfy what it leaves, and the map is not too large then.
pub record IsAccepted (s : Standing) (edit : Edit) : Type 0 where
  pub no_cause : list_cause s edit ≡ None
  pub dates : IsConsistent (next_list s edit).premises
  pub small : size (built (next_list s edit)) ≤ most_size
