use Rattle.std.proofs.Common.{◌≡◌, ℕ, suc, ◌+◌}
use Rattle.list_theory.specs.WellNamed.{IsSound}
use Rattle.timeline.proofs.Gathered.{IsGathered}
use Rattle.timeline.proofs.listing.entries.Given as goal

abbrev pub invariant-loop-back : goal.invariant-loop-back
invariant-loop-back l = record {
  gathered : (sound : IsSound l.standing.present) (d : ℕ) → d + l.back ≡ suc l.standing.present.horizon → IsGathered l.standing.present sound d l.coming.items l.entries.items;
}
