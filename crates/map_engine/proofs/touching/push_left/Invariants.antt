use Rattle.std.proofs.Common.{ℕ, take}
use Rattle.std.specs.List.{Contains}
use Rattle.tmm_model.specs.Moments.{Moment}
use Rattle.list_theory.proofs.Elements.{In}
use Rattle.belief_turns.specs.Numbered.{left_under}
use Rattle.map_engine.proofs.touching.push_left.Given as goal

abbrev pub invariant-loop-gone : goal.invariant-loop-gone
invariant-loop-gone l = record {
  kept : (x : ℕ) → Contains l.fn.found.items x → Contains l.found.items x;
  pushed : (x : ℕ) (k : Moment) → In (x, k) (left_under (take l.gone-index l.left)) → Contains l.found.items x;
}
