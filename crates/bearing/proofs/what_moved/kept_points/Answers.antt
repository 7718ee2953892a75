use Rattle.std.proofs.Common.{◌≡◌, Bool, true, ◌<◌, subst, arith}
use Rattle.bearing.specs.MovedPairs.{is_kept}
use Rattle.bearing.specs.PointSets.{PutsIn}
use Rattle.bearing.proofs.Sets.{puts_none, puts_next, puts_into_none, none_of}
use Rattle.bearing.proofs.what_moved.kept_points.Goals as goal

pub loop-p-init : goal.loop-p-init
loop-p-init c = puts_none (λ k. (k < 0) × (is_kept c.args.net.now.present.names c.args.added.now k ≡ true)) c.in_ok-kept.kept.items (λ p (less, is). omega (arith, less))

pub put_if-requires : goal.put_if-requires
put_if-requires c = let less = c.loop-p.invariant.places in omega (arith, less, c.in_ok-kept.ensures.len, c.in_ok-kept.kept.ok.0)

pub loop-p-preserved : goal.loop-p-preserved
loop-p-preserved c =
    puts_next (λ k. is_kept c.args.net.now.present.names c.args.added.now k ≡ true) c.loop-p.p c.in_ok-kept.kept.items c.loop-p.kept.items c.put_if.new.set.items c.loop-p.invariant
    (subst (λ (v : Bool). PutsIn (λ k. (k ≡ c.loop-p.p) × (v ≡ true)) c.loop-p.kept.items c.put_if.new.set.items) c.is_kept.ensures c.put_if.ensures)

pub returns : goal.returns
returns c =
    let whole : c.loop-p.p ≡ 256 = omega arith in
    puts_into_none (λ k. (k < 256) × (is_kept c.args.net.now.present.names c.args.added.now k ≡ true)) c.in_ok-kept.kept.items c.loop-p.kept.items
    (none_of c.in_ok-kept.kept.items 256 (c.in_ok-kept.ensures.items_if_clones_equal (λ y e. e)))
    (omega (arith, c.in_ok-kept.ensures.len, c.in_ok-kept.kept.ok.0))
    (subst (λ n. PutsIn (λ k. (k < n) × (is_kept c.args.net.now.present.names c.args.added.now k ≡ true)) c.in_ok-kept.kept.items c.loop-p.kept.items) whole c.loop-p.invariant)
