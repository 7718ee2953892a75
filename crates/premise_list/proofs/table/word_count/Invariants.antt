use Rattle.std.proofs.Common.{◌≡◌, ◌≤◌, ◌*◌, length, take}
use Rattle.tmm_model.specs.Verdicts.{words_known}
use Rattle.premise_list.proofs.table.word_count.Given as goal

abbrev pub invariant-loop-premise : goal.invariant-loop-premise
invariant-loop-premise l = record {
  small : l.count ≤ 9 * l.premise-index;
  exact : l.count ≡ length (words_known (take l.premise-index l.premises));
}
