use Rattle.std.proofs.Common.{◌≡◌, ◌≤◌, ◌++◌, length}
use Rattle.tmm_model.specs.Lines.{AreNames, words}
use Rattle.tmm_script.proofs.fields.all_names.Given as goal

abbrev pub invariant-loop-word : goal.invariant-loop-word
invariant-loop-word g l = record {
  names : AreNames l.names.items;
  few : length l.names.items ≤ g.row.N;
  parts : words l.line ≡ l.names.items ++ words l.rest;
}

abbrev pub decreases-loop-word : goal.decreases-loop-word
decreases-loop-word g l = length (words l.rest)
