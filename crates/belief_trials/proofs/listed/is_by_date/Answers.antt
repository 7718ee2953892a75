use Rattle.std.proofs.Common.{◌≡◌, ◌∙◌, ◌-◌, ◌<◌, length, sym, arith, ◌≤ℤ◌}
use Rattle.std.specs.declared.cmp.Ordering.TheVariants.{Less}
use Rattle.std.proofs.lemmas.Bool.{false≢true}
use Rattle.tmm_model.specs.declared.token.TokenRow.{TokenRow}
use Rattle.belief_trials.proofs.Rising.{dates_on, before_on, pair_read}
use Rattle.belief_trials.proofs.listed.is_by_date.Goals as goal

pub returns-then-not-follows : goal.returns-then-not-follows
returns-then-not-follows g c = (
  (λ t. absurd (false≢true t)),
  λ up.
      (let tokens = c.args.tokens.now in
      let i = c.loop-i.i in
      let date = g.S.Dated.date c.args.order.now in
      let order = g.S.Sure.order c.args.order.now in
      let first = c.index-tokens-i.result in
      let second = c.index-tokens-i-in-loop-i.result in
      let within : i < length tokens = omega (arith, c.loop-i-test.true) in
      let before : i - 1 < length tokens = omega (arith, within) in
      let less : i - 1 < i = omega (arith, c.loop-i.invariant.some) in
      sym c.if-not-follows.true ∙ c.follows.ensures.1 (
        pair_read (λ (x y : TokenRow g.row.S-Spot.Denot). date x.spot ≤ℤ date y.spot) tokens (i - 1) i first first first second before within (up.dates (i - 1) i first less within),
        pair_read (λ (x y : TokenRow g.row.S-Spot.Denot). order x.spot y.spot ≡ Less) tokens (i - 1) i first first first second before within (up.before (i - 1) i first less within),
      )),
)

pub loop-i-preserved : goal.loop-i-preserved
loop-i-preserved g c =
    let tokens = c.args.tokens.now in
    let i = c.loop-i.i in
    let date = g.S.Dated.date c.args.order.now in
    let order = g.S.Sure.order c.args.order.now in
    let first = c.index-tokens-i.result in
    let second = c.index-tokens-i-in-loop-i.result in
    let within : i < length tokens = omega (arith, c.loop-i-test.true) in
    let before : i - 1 < length tokens = omega (arith, within) in
    let pair = c.follows.ensures.0 c.if-not-follows.false in
    record {
      some = omega arith;
      dates = dates_on date (g.met.S.Sure.ordered c.args.order.now) tokens c.requires.all_live i c.loop-i.invariant.some within c.loop-i.invariant.dates
          (λ d. pair_read (λ (x y : TokenRow g.row.S-Spot.Denot). date x.spot ≤ℤ date y.spot) tokens (i - 1) i first second d d before within pair.0);
      before = before_on date (g.met.S.Sure.ordered c.args.order.now) tokens c.requires.all_live i c.loop-i.invariant.some within c.loop-i.invariant.before
          (λ d. pair_read (λ (x y : TokenRow g.row.S-Spot.Denot). order x.spot y.spot ≡ Less) tokens (i - 1) i first second d d before within pair.1);
    }
