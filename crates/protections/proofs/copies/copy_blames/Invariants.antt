use Rattle.std.proofs.Common.{◌≡◌, map, take}
use Rattle.tmm_model.specs.Answers.{blame_of}
use Rattle.protections.proofs.copies.copy_blames.Given as goal

abbrev pub invariant-loop-blame : goal.invariant-loop-blame
invariant-loop-blame l = map blame_of l.copies.items ≡ map blame_of (take l.blame-index l.blames)
