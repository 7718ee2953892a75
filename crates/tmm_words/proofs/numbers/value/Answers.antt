use Rattle.std.proofs.Common.{sym, ◌∙◌}
use Rattle.tmm_words.proofs.Digits.{digit_bad, digit_large, digit_taken, digits_done}
use Rattle.tmm_words.proofs.numbers.value.Goals as goal

pub returns-then-not-is_ascii_digit : goal.returns-then-not-is_ascii_digit
returns-then-not-is_ascii_digit c = digit_bad c.loop-b.value c.loop-b.b-index c.args.digits.now _ c.loop-b.invariant.left c.loop-b-test.true (sym c.is_ascii_digit.ensures.value ∙ c.if-not-is_ascii_digit.true)

pub returns-then-next : goal.returns-then-next
returns-then-next c = digit_large c.loop-b.value c.loop-b.b-index c.args.digits.now _ c.loop-b.invariant.left c.loop-b-test.true (rw c.from.ensures at c.if-next.true)

pub loop-b-preserved : goal.loop-b-preserved
loop-b-preserved c = record {
  small = c.if-next.false;
  left = rw c.from.ensures (digit_taken c.loop-b.value c.loop-b.b-index c.args.digits.now _ c.loop-b.invariant.left c.loop-b-test.true (sym c.is_ascii_digit.ensures.value ∙ c.if-not-is_ascii_digit.false) (rw c.from.ensures at c.if-next.false));
}

pub returns : goal.returns
returns c = digits_done c.loop-b.value c.loop-b.b-index c.args.digits.now _ c.loop-b.invariant.left c.loop-b-test.false
