use Rattle.std.proofs.Common.{arith}
use Rattle.std.proofs.lemmas.Result.{err_from_is_err_and}
use Rattle.suppose.proofs.Stacks.{supposed-copy, settled-copy, supposed-some, same_world}
use Rattle.suppose.proofs.stack.Stack.suppose.Goals as goal

pub returns-in_err-copy_below-clause-full : goal.returns-in_err-copy_below-clause-full
returns-in_err-copy_below-clause-full g c =
    let p = err_from_is_err_and c.from_residual.result c.from_residual.ensures.1 in
    let some = supposed-some g.M.MapCore.list c.args.self.now (omega (arith, c.requires.few)) in
    rw (p.1, p.2) ((λ never. cc), (λ never. cc))

pub returns-in_err-copy_below-clause-same : goal.returns-in_err-copy_below-clause-same
returns-in_err-copy_below-clause-same g c =
    let p = err_from_is_err_and c.from_residual.result c.from_residual.ensures.1 in
    rw p.1 (same_world g.M.MapCore.list c.args.self.now c.copy_below.new.self c.copy_below.ensures.top c.in_err-copy_below.ensures.same)

pub returns-clause-supposed : goal.returns-clause-supposed
returns-clause-supposed g c =
    supposed-copy g.M.MapCore.list c.args.self.now (omega (arith, c.requires.few)) c.copy_below.new.self c.in_ok-copy_below.ensures.below.0 c.copy_below.ensures.top c.in_ok-copy_below.ensures.below.1 c.in_ok-copy_below.ensures.below.2

pub returns-clause-settled : goal.returns-clause-settled
returns-clause-settled g c =
    settled-copy g.M.MapCore.list c.args.self.now g.M.MapCore.pending c.requires (omega (arith, c.requires.few)) c.copy_below.new.self c.in_ok-copy_below.ensures.below.0 c.copy_below.ensures.top c.in_ok-copy_below.ensures.below.1 c.in_ok-copy_below.ensures.below.3
