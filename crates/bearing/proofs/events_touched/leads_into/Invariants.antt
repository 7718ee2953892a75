use Rattle.std.proofs.Common.{◌≡◌, ℕ, ◌<◌, true}
use Rattle.bearing.specs.PointSets.{is_in, has_pair}
use Rattle.bearing.proofs.events_touched.leads_into.Given as goal

abbrev pub invariant-loop-q : goal.invariant-loop-q
invariant-loop-q l = (k : ℕ) → k < l.q → is_in l.set k ≡ true → has_pair l.pairs l.p k ≡ true → ⊥
