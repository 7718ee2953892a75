use Rattle.std.proofs.Common.{◌≡◌, ◌<◌, subst, arith}
use Rattle.bearing.specs.Fast.{IsFastBy}
use Rattle.bearing.specs.PointSets.{PutsIn}
use Rattle.bearing.proofs.Sets.{puts_none, puts_next, puts_told, puts_into_none, none_of}
use Rattle.bearing.proofs.what_moved.fast_points.Goals as goal

pub loop-p-init : goal.loop-p-init
loop-p-init c = puts_none (λ k. (k < 0) × IsFastBy c.args.moved.now c.args.pairs.now c.args.kept.now k) c.in_ok-fast.fast.items (λ p (less, is). omega (arith, less))

pub put_if-requires : goal.put_if-requires
put_if-requires c = let less = c.loop-p.invariant.places in omega (arith, less, c.in_ok-fast.ensures.len, c.in_ok-fast.fast.ok.0)

pub loop-p-preserved : goal.loop-p-preserved
loop-p-preserved c =
    puts_next (IsFastBy c.args.moved.now c.args.pairs.now c.args.kept.now) c.loop-p.p c.in_ok-fast.fast.items c.loop-p.fast.items c.put_if.new.set.items c.loop-p.invariant
    (puts_told (IsFastBy c.args.moved.now c.args.pairs.now c.args.kept.now) c.loop-p.p c.is_fast.result c.loop-p.fast.items c.put_if.new.set.items c.is_fast.ensures c.put_if.ensures)

pub returns : goal.returns
returns c =
    let whole : c.loop-p.p ≡ 256 = omega arith in
    puts_into_none (λ k. (k < 256) × IsFastBy c.args.moved.now c.args.pairs.now c.args.kept.now k) c.in_ok-fast.fast.items c.loop-p.fast.items
    (none_of c.in_ok-fast.fast.items 256 (c.in_ok-fast.ensures.items_if_clones_equal (λ y e. e)))
    (omega (arith, c.in_ok-fast.ensures.len, c.in_ok-fast.fast.ok.0))
    (subst (λ n. PutsIn (λ k. (k < n) × IsFastBy c.args.moved.now c.args.pairs.now c.args.kept.now k) c.in_ok-fast.fast.items c.loop-p.fast.items) whole c.loop-p.invariant)
