use Rattle.std.proofs.Common.{◌+◌, ◌-◌, ◌<◌, length, subst, arith, ◌≤ℤ◌, ◌<ℤ◌, to_z, of_z, w64, FitsSigned, rules}
use Rattle.std.specs.Prelude.{◌/◌, slice_index_or}
use Rattle.std.proofs.lemmas.List.{get_or_default}
use Rattle.std.proofs.lemmas.Int.{ints, to_z-of_z}
use Rattle.clipping.proofs.Halving.{first_more, rest_more}
use Rattle.clipping.proofs.by_date.count_by_date.Goals as goal

pub loop-low-preserved-then-date-until : goal.loop-low-preserved-then-date-until
loop-low-preserved-then-date-until g c =
    let middle = c.loop-low.low + (c.loop-low.high - c.loop-low.low) / 2 in
    let tokens = c.args.tokens.now in
    let date = g.S.Dated.date c.args.order.now in
    let until = to_z w64 (of_z w64 c.args.until) in
    let within : middle < length tokens = omega (arith, c.loop-low.invariant.high) in
    let item = c.index-tokens-middle.result in
    let fits : FitsSigned w64 c.date.result = search rules in
    let is = to_z-of_z w64 c.date.result fits in
    let here : c.date.result ≤ℤ until = omega (arith, ints, is, c.if-date-until.true) in
    record {
      low = omega arith;
      high = c.loop-low.invariant.high;
      first = first_more tokens c.requires.by_date middle until within (λ d. subst (λ x. date x.spot ≤ℤ until) (get_or_default tokens middle item d within) (subst (λ z. z ≤ℤ until) c.date.ensures here));
      rest = c.loop-low.invariant.rest;
    }

pub loop-low-preserved : goal.loop-low-preserved
loop-low-preserved g c =
    let middle = c.loop-low.low + (c.loop-low.high - c.loop-low.low) / 2 in
    let tokens = c.args.tokens.now in
    let date = g.S.Dated.date c.args.order.now in
    let until = to_z w64 (of_z w64 c.args.until) in
    let within : middle < length tokens = omega (arith, c.loop-low.invariant.high) in
    let item = c.index-tokens-middle.result in
    let fits : FitsSigned w64 c.date.result = search rules in
    let is = to_z-of_z w64 c.date.result fits in
    let here : until <ℤ c.date.result = omega (arith, ints, is, c.if-date-until.false) in
    record {
      low = omega arith;
      high = omega (arith, within);
      first = c.loop-low.invariant.first;
      rest = rest_more tokens c.requires.by_date middle until within (λ d. subst (λ x. until <ℤ date x.spot) (get_or_default tokens middle item d within) (subst (λ z. until <ℤ z) c.date.ensures here));
    }

pub returns : goal.returns
returns g c =
    let fits : FitsSigned w64 c.args.until = search rules in
    let is = to_z-of_z w64 c.args.until fits in
    record {
      within = omega (arith, c.loop-low.invariant.low, c.loop-low.invariant.high);
      first = λ i d lt. subst (λ t. g.S.Dated.date c.args.order.now (slice_index_or c.args.tokens.now i d).spot ≤ℤ t) is (c.loop-low.invariant.first i d lt);
      rest = λ i d le lt. subst (λ t. t <ℤ g.S.Dated.date c.args.order.now (slice_index_or c.args.tokens.now i d).spot) is (c.loop-low.invariant.rest i d (omega (arith, c.loop-low-test.false)) lt);
    }
