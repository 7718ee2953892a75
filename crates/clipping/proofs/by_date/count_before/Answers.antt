use Rattle.std.proofs.Common.{◌≡◌, ◌≢◌, ◌∙◌, ◌+◌, ◌-◌, ◌<◌, length, sym, subst, arith}
use Rattle.std.specs.Prelude.{◌/◌}
use Rattle.std.specs.declared.cmp.Ordering.TheVariants.{Less}
use Rattle.std.proofs.lemmas.List.{get_or_default}
use Rattle.clipping.proofs.Halving.{is_less, no_less, before_more, behind_more}
use Rattle.clipping.proofs.by_date.count_before.Goals as goal

pub loop-low-preserved-then-is_lt : goal.loop-low-preserved-then-is_lt
loop-low-preserved-then-is_lt g c =
    let middle = c.loop-low.low + (c.loop-low.high - c.loop-low.low) / 2 in
    let tokens = c.args.tokens.now in
    let spot = c.args.spot in
    let order = g.S.Sure.order c.args.order.now in
    let within : middle < length tokens = omega (arith, c.loop-low.invariant.high) in
    let item = c.index-tokens-middle.result in
    let here : c.rank.result ≡ Less = is_less c.rank.result (sym c.is_lt.ensures ∙ c.if-is_lt.true) in
    record {
      low = omega arith;
      high = c.loop-low.invariant.high;
      first = before_more tokens c.requires.by_date (g.met.S.Sure.ordered c.args.order.now) c.requires.all_live spot c.requires.spot_live middle within (λ d. subst (λ x. order x.spot spot ≡ Less) (get_or_default tokens middle item d within) (sym c.rank.ensures ∙ here));
      rest = c.loop-low.invariant.rest;
    }

pub loop-low-preserved : goal.loop-low-preserved
loop-low-preserved g c =
    let middle = c.loop-low.low + (c.loop-low.high - c.loop-low.low) / 2 in
    let tokens = c.args.tokens.now in
    let spot = c.args.spot in
    let order = g.S.Sure.order c.args.order.now in
    let within : middle < length tokens = omega (arith, c.loop-low.invariant.high) in
    let item = c.index-tokens-middle.result in
    let here : c.rank.result ≢ Less = no_less c.rank.result (sym c.is_lt.ensures ∙ c.if-is_lt.false) in
    record {
      low = omega arith;
      high = omega (arith, within);
      first = c.loop-low.invariant.first;
      rest = behind_more tokens c.requires.by_date (g.met.S.Sure.ordered c.args.order.now) c.requires.all_live spot c.requires.spot_live middle within (λ d. subst (λ x. order x.spot spot ≢ Less) (get_or_default tokens middle item d within) (λ less. here (c.rank.ensures ∙ less)));
    }
