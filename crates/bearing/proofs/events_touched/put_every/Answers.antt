use Rattle.std.proofs.Common.{◌≡◌, ◌<◌, true, arith}
use Rattle.bearing.proofs.Sets.{puts_none, puts_next}
use Rattle.bearing.proofs.events_touched.put_every.Goals as goal

pub loop-p-init : goal.loop-p-init
loop-p-init c = puts_none (λ k. (k < 0) × (c.args.is ≡ true)) c.args.into.now.items (λ p (less, is). omega (arith, less))

pub loop-p-preserved : goal.loop-p-preserved
loop-p-preserved c = puts_next (λ k. c.args.is ≡ true) c.loop-p.p c.args.into.now.items c.loop-p.into.items c.put_if.new.set.items c.loop-p.invariant c.put_if.ensures
