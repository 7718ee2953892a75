use Rattle.std.proofs.Common.{◌≡◌, ◌++◌, drop, map}
use Rattle.tmm_model.specs.Points.{occ_word}
use Rattle.tmm_model.specs.Lines.{behind_spaces}
use Rattle.replies.proofs.reasons.put_supports.Given as goal

abbrev pub invariant-loop-token : goal.invariant-loop-token
invariant-loop-token l = l.out.items ++ behind_spaces (map occ_word (drop l.token-index l.rest)) ≡ l.initial.out.items ++ behind_spaces (map occ_word l.rest)
