use Rattle.std.proofs.Common.{◌≡◌, map, take}
use Rattle.tmm_model.specs.Moments.{moment_of}
use Rattle.just_check.specs.Audited.{IsChecked, rows_of}
use Rattle.just_check.proofs.auditing.take_all.Given as goal

abbrev pub invariant-loop-row : goal.invariant-loop-row
invariant-loop-row l = record {
  checked : IsChecked l.standing.present l.net.present l.checked;
  rows : rows_of l.checked ≡ map moment_of (take l.row-index l.rows);
}
