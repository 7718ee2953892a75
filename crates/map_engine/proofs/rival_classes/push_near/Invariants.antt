use Rattle.std.proofs.Common.{ℕ, List, take}
use Rattle.list_theory.proofs.Elements.{In}
use Rattle.premise_list.specs.Rivalries.{rivalries}
use Rattle.map_engine.specs.RivalClasses.{FollowsBoth}
use Rattle.map_engine.proofs.RivalClasses.{AreKept}
use Rattle.map_engine.proofs.rival_classes.push_near.Given as goal

abbrev pub invariant-loop-i : goal.invariant-loop-i
invariant-loop-i l = record {
  kept : AreKept l.fn.found.items l.found.items;
  near : (pair : List ℕ × List ℕ) → In pair (take l.i (rivalries l.standing.present.premises)) → FollowsBoth l.standing.present l.touched l.found.items pair;
}
