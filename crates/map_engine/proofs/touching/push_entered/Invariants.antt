use Rattle.std.proofs.Common.{ℕ, take}
use Rattle.std.specs.List.{Contains}
use Rattle.tmm_model.specs.Moments.{moment_of}
use Rattle.occ_tree.specs.Places.{forest}
use Rattle.belief_table.specs.declared.dated.DatedOcc.{DatedOcc}
use Rattle.list_theory.proofs.Elements.{In}
use Rattle.map_engine.specs.Touching.{HasNodeOf}
use Rattle.map_engine.proofs.touching.push_entered.Given as goal

abbrev pub invariant-loop-new : goal.invariant-loop-new
invariant-loop-new l = record {
  kept : (x : ℕ) → Contains l.fn.found.items x → Contains l.found.items x;
  pushed : (m : DatedOcc) → In m (take l.new-index l.entered) → HasNodeOf (forest l.tree) (moment_of m.occ) l.found.items;
}
