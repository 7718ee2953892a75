use Rattle.std.proofs.Common.{ap, ◌∙◌, arith}
use Rattle.std.specs.List.{remove}
use Rattle.premise_list.proofs.Moves.{remove_seam}
use Rattle.premise_list.proofs.table.remove_names.Goals as goal

pub loop-preserved : goal.loop-preserved
loop-preserved c = record {
  entries = c.shift_remove_index-gone.ensures.entries ∙ ap (λ es. remove es c.args.first) c.loop.invariant.entries ∙ remove_seam c.args.first c.loop.counter c.args.words.now.entries;
  room = omega (arith, c.shift_remove_index-gone.ensures.room.0, c.loop.invariant.room);
}
