use Rattle.std.proofs.Common.{ℕ, List, take}
use Rattle.list_theory.proofs.Elements.{In}
use Rattle.map_engine.specs.RivalClasses.{HasClassesOf}
use Rattle.map_engine.proofs.RivalClasses.{AreKept}
use Rattle.map_engine.proofs.rival_classes.push_changed.Given as goal

abbrev pub invariant-loop-i : goal.invariant-loop-i
invariant-loop-i l = record {
  kept : AreKept l.fn.found.items l.found.items;
  pushed : (pair : List ℕ × List ℕ) → In pair (take l.i l.changed.items) → HasClassesOf l.standing.present pair l.found.items;
}
