use Rattle.std.proofs.Common.{◌≡◌, ◌≤◌, drop}
use Rattle.tmm_grammar.specs.Reading.{digits_on}
use Rattle.tmm_words.proofs.numbers.value.Given as goal

abbrev pub invariant-loop-b : goal.invariant-loop-b
invariant-loop-b l = record {
  small : l.value ≤ 1000000000;
  left : digits_on l.value (drop l.b-index l.digits) ≡ digits_on 0 l.digits;
}
