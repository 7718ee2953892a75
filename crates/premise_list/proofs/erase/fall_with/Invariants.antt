use Rattle.std.proofs.Common.{◌≡◌, [], ◌++◌, map, take, drop}
use Rattle.tmm_model.specs.Standing.{name_of}
use Rattle.tmm_model.specs.Erasure.{kept_after}
use Rattle.list_theory.specs.Fallen.{fallen_after}
use Rattle.premise_list.specs.Past.{RiseBelow, without}
use Rattle.premise_list.proofs.erase.fall_with.Given as goal

abbrev pub invariant-loop-place : goal.invariant-loop-place
invariant-loop-place l = record {
  names : l.names.items ++ map name_of (fallen_after l.erased l.gone.keys (drop l.place l.premises)) ≡ map name_of (fallen_after l.erased [] (drop l.first l.premises));
  places : RiseBelow l.place l.places.items;
  kept : without l.places.items (take l.place l.premises) ++ kept_after l.erased l.gone.keys (drop l.place l.premises) ≡ take l.first l.premises ++ kept_after l.erased [] (drop l.first l.premises);
}
