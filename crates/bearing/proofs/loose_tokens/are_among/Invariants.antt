use Rattle.std.proofs.Common.{◌≡◌, ℕ, ◌<◌, true}
use Rattle.bearing.specs.PointSets.{is_in}
use Rattle.bearing.proofs.loose_tokens.are_among.Given as goal

abbrev pub invariant-loop-p : goal.invariant-loop-p
invariant-loop-p l = (k : ℕ) → k < l.p → is_in l.set k ≡ true → is_in l.other k ≡ true
