use Rattle.std.proofs.Common.{◌≡◌, take}
use Rattle.std.specs.Prelude.{None}
use Rattle.std.specs.List.{flat_map}
use Rattle.repairs.specs.Aims.{GrowsBy}
use Rattle.repairs.specs.Repairs.{taken_from}
use Rattle.repairs.proofs.candidates.try_all_taken.Given as goal

-- what might be taken from the first premises is tried, on a map that is as before
abbrev pub invariant-loop-place : goal.invariant-loop-place
invariant-loop-place g l =
    (g.M.MapCore.list l.core ≡ g.M.MapCore.list l.fn.core)
    × (g.M.MapCore.pending l.core ≡ None)
    × GrowsBy (g.M.MapCore.list l.fn.core) l.aim (flat_map taken_from (take l.place (g.M.MapCore.list l.fn.core).premises)) l.fn.fixes.items l.fixes.items
