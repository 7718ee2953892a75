use Rattle.std.proofs.Common.{◌≡◌, ℕ, ◌<◌, true}
use Rattle.bearing.specs.PointSets.{is_in, has_pair}
use Rattle.bearing.proofs.events_touched.is_led_to_from.Given as goal

abbrev pub invariant-loop-q : goal.invariant-loop-q
invariant-loop-q l = (k : ℕ) → k < l.q → is_in l.set k ≡ true → has_pair l.pairs k l.p ≡ true → ⊥
