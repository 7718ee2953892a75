use Rattle.std.proofs.Common.{◌≡◌, ℕ, ◌<◌, length, get_or, inl, inr, arith}
use Rattle.bearing.specs.Touching.{LeadsTo, LeadsInto, LeadsIntoBy}
use Rattle.bearing.proofs.Sets.{puts_none, puts_more, puts_listed}
use Rattle.bearing.proofs.events_touched.put_before.Goals as goal

pub loop-p-init : goal.loop-p-init
loop-p-init c = puts_none (λ p. (k : ℕ) × (k < 0) × (LeadsIntoBy c.args.pairs.now c.args.set.now (get_or c.args.moved.now k 0) p)) c.args.into.now.items (λ p (k, less, leads). omega (arith, less))

pub put_before_by-requires-clause-point : goal.put_before_by-requires-clause-point
put_before_by-requires-clause-point c = c.requires.moved.below c.loop-p.p-index 0 c.loop-p-test.true

pub loop-p-preserved : goal.loop-p-preserved
loop-p-preserved c =
    puts_more (λ k. LeadsIntoBy c.args.pairs.now c.args.set.now (get_or c.args.moved.now k 0)) c.loop-p.p-index c.args.into.now.items c.loop-p.into.items c.put_before_by.new.into.items c.loop-p.invariant c.put_before_by.ensures

pub returns : goal.returns
returns c =
    let whole : c.loop-p.p-index ≡ length c.args.moved.now = omega arith in
    puts_listed (LeadsInto c.args.pairs.now c.args.set.now) (LeadsTo c.args.pairs.now c.args.set.now) c.args.moved.now c.loop-p.p-index c.args.into.now.items c.loop-p.into.items whole c.requires.moved.below
    (λ m p lm leads. (m, lm, leads))
    (λ p (q, lq, (lp, there, pair)). elim (c.requires.moved.each p q lp lq pair) [ inl own ↦ inl own | inr other ↦ inr (q, other, (lp, there, pair)) ])
    c.loop-p.invariant
