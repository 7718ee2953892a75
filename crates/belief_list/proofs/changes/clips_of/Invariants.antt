use Rattle.std.proofs.Common.{◌≡◌, map, take}
use Rattle.tmm_model.specs.Changes.{clip_pair}
use Rattle.occ_tree.specs.Places.{forest}
use Rattle.belief_list.specs.Told.{pairs_of}
use Rattle.belief_list.proofs.changes.clips_of.Given as goal

abbrev pub invariant-loop-i : goal.invariant-loop-i
invariant-loop-i l = map clip_pair l.clips.items ≡ pairs_of (forest l.tree) (take l.i l.pairs)
