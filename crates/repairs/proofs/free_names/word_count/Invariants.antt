use Rattle.std.proofs.Common.{◌≡◌, ◌≤◌, ◌*◌, length, take}
use Rattle.tmm_model.specs.Verdicts.{words_known}
use Rattle.repairs.proofs.free_names.word_count.Given as goal

-- the names of the first premises are counted
abbrev pub invariant-loop-place : goal.invariant-loop-place
invariant-loop-place l = record {
  small : l.count ≤ 9 * l.place;
  exact : l.count ≡ length (words_known (take l.place l.standing.present.premises));
}
