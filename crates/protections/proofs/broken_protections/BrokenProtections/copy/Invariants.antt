use Rattle.std.proofs.Common.{◌≡◌, ◌≤◌, drop}
use Rattle.indexmap.specs.IndexMap.{spare}
use Rattle.protections.specs.Found.{found_in}
use Rattle.protections.proofs.Copying.{found_among}
use Rattle.protections.proofs.broken_protections.BrokenProtections.copy.Given as goal

abbrev pub invariant-loop-i : goal.invariant-loop-i
invariant-loop-i l = record {
  found : found_in l.made ≡ found_among (drop l.i l.self.reports.entries);
  room : l.i ≤ spare l.made.reports;
}
