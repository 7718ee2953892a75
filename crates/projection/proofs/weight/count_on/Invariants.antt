use Rattle.std.proofs.Common.{◌≡◌, ◌≤◌, length, take}
use Rattle.std.specs.List.{filter_map}
use Rattle.tmm_model.specs.Beliefs.{on_kind}
use Rattle.projection.proofs.weight.count_on.Given as goal

abbrev pub invariant-loop-place : goal.invariant-loop-place
invariant-loop-place l = record {
  value : l.count ≡ length (filter_map (on_kind l.kind) (take l.place l.standing.present.premises));
  few : l.count ≤ l.place;
}
