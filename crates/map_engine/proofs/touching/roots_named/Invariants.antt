use Rattle.std.proofs.Common.{ℕ, List, take}
use Rattle.tmm_model.specs.declared.point.PointName.TheVariants.{Begin}
use Rattle.tmm_model.specs.Moments.{At}
use Rattle.list_theory.proofs.Elements.{In}
use Rattle.occ_tree.specs.Places.{forest}
use Rattle.map_engine.specs.Touching.{HasNodeOf}
use Rattle.map_engine.proofs.touching.roots_named.Given as goal

abbrev pub invariant-loop-name : goal.invariant-loop-name
invariant-loop-name l = (k : List ℕ) → In k (take l.name-index l.names) → HasNodeOf (forest l.tree) (At (Begin k)) l.found.items
