use Rattle.std.proofs.Common.{◌≡◌, ◌++◌, drop}
use Rattle.tmm_model.specs.Lines.{behind_spaces}
use Rattle.replies.proofs.reasons.put_exceptions.Given as goal

abbrev pub invariant-loop-fact : goal.invariant-loop-fact
invariant-loop-fact l = l.out.items ++ behind_spaces (drop l.fact-index l.rest) ≡ l.initial.out.items ++ behind_spaces l.rest
