use Rattle.std.proofs.Common.{◌≡◌, ◌≤◌, ◌*◌, length, map, take}
use Rattle.tmm_model.specs.Verdicts.{words_known}
use Rattle.premise_list.specs.Past.{taken_premise}
use Rattle.premise_list.proofs.past.words_owed.Given as goal

abbrev pub invariant-loop-one : goal.invariant-loop-one
invariant-loop-one l = record {
  small : l.count ≤ 9 * l.one-index;
  exact : l.count ≡ length (words_known (map taken_premise (take l.one-index l.taken)));
}
