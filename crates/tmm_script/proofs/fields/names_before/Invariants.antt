use Rattle.std.proofs.Common.{◌≡◌, ◌≤◌, ◌++◌, length}
use Rattle.tmm_model.specs.Lines.{AreNames, words}
use Rattle.tmm_grammar.specs.Reading.{given_part, exception_part}
use Rattle.tmm_script.proofs.fields.names_before.Given as goal

abbrev pub invariant-loop-word : goal.invariant-loop-word
invariant-loop-word g l = record {
  names : AreNames l.names.items;
  few : length l.names.items ≤ g.row.N;
  given : given_part l.version (words l.line) ≡ l.names.items ++ given_part l.version (words l.rest);
  exceptions : exception_part l.version (words l.line) ≡ exception_part l.version (words l.rest);
}

abbrev pub decreases-loop-word : goal.decreases-loop-word
decreases-loop-word g l = length (words l.rest)
