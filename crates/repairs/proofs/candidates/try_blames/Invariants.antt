use Rattle.std.proofs.Common.{◌≡◌, take, map}
use Rattle.std.specs.Prelude.{None}
use Rattle.std.specs.List.{flat_map}
use Rattle.tmm_model.specs.Answers.{blame_of}
use Rattle.repairs.specs.Aims.{GrowsBy}
use Rattle.repairs.specs.Repairs.{added_against}
use Rattle.repairs.proofs.candidates.try_blames.Given as goal

-- the first blames are tried, on a map that is as before
abbrev pub invariant-loop-blame : goal.invariant-loop-blame
invariant-loop-blame g l =
    (g.M.MapCore.list l.core ≡ g.M.MapCore.list l.fn.core)
    × (g.M.MapCore.pending l.core ≡ None)
    × GrowsBy (g.M.MapCore.list l.fn.core) l.aim (flat_map (added_against l.extent.from l.extent.to) (map blame_of (take l.blame-index l.blames))) l.fn.fixes.items l.fixes.items
