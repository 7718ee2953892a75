use Rattle.std.proofs.Common.{◌≡◌, ◌++◌, drop}
use Rattle.std.specs.List.{flat_map}
use Rattle.tmm_model.specs.Replies.{occ_line}
use Rattle.replies.proofs.details.put_occs.Given as goal

abbrev pub invariant-loop-occ : goal.invariant-loop-occ
invariant-loop-occ l = l.out.items ++ flat_map (occ_line l.word) (drop l.occ-index l.occs) ≡ l.fn.out.items ++ flat_map (occ_line l.word) l.occs
