use Rattle.std.proofs.Common.{◌≡◌, ◌+◌, ◌-◌, sym, subst, arith}
use Rattle.supports.specs.Entries.{AreSkipsFrom}
use Rattle.supports.proofs.Unlike.{skip_set}
use Rattle.supports.proofs.skips.skips_of.Goals as goal

pub skip_at-skip-requires-clause-behind : goal.skip_at-skip-requires-clause-behind
skip_at-skip-requires-clause-behind c =
    let at : c.loop-i.i ≡ c.loop-i.i - 1 + 1 = omega (arith, c.loop-i-test.true) in
    subst (λ l. AreSkipsFrom c.args.rows.now c.args.entries.now l (c.loop-i.i - 1 + 1)) (sym c.deref.ensures.value)
    (subst (AreSkipsFrom c.args.rows.now c.args.entries.now c.loop-i.skips.items) at c.loop-i.invariant)

pub loop-i-preserved : goal.loop-i-preserved
loop-i-preserved c =
    let at : c.loop-i.i - 1 + 1 ≡ c.loop-i.i = omega (arith, c.loop-i-test.true) in
    skip_set c.args.rows.now c.args.entries.now c.loop-i.skips.items (c.loop-i.i - 1) c.loop-i.i c.skip_at-skip.result at (omega (arith, c.loop-i-test.true, c.loop-i.invariant.count)) c.loop-i.invariant c.skip_at-skip.ensures
