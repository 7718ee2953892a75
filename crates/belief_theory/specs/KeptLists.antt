-- The standing lists that the program keeps.
use Rattle.std.specs.Prelude.{ℕ, ◌≤◌, length}
use Rattle.std.specs.List.{All}
use Rattle.tmm_model.specs.declared.limits.TheConstants.{LAST_HORIZON}
use Rattle.tmm_model.specs.Answers.{size, most_size}
use Rattle.tmm_model.specs.Lines.{IsOfVersion}
use Rattle.tmm_model.specs.Maps.{built}
use Rattle.list_theory.specs.WellNamed.{IsSound}
use Rattle.tmm_model.specs.Standing.{Standing, points_in}
use Rattle.tmm_model.specs.Verdicts.{most_premises, most_points}

-- the greatest horizon
abbrev pub last_horizon : ℕ
last_horizon = LAST_HORIZON

-- Well-formed and well-named premises of the list's version that some dates satisfy, within all
-- limits.
pub record IsKept (s : Standing) : Type 0 where
  pub sound : IsSound s
  pub versioned : All (IsOfVersion s.version) s.premises
  pub horizon : s.horizon ≤ last_horizon
  pub premises : length s.premises ≤ most_premises
  pub points : length (points_in s.premises) ≤ most_points
  pub small : size (built s) ≤ most_size
