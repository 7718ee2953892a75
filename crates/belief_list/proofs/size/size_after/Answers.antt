use Rattle.std.proofs.Common.{arith}
use Rattle.belief_list.proofs.Sizes.{size_changed}
use Rattle.belief_list.proofs.size.size_after.Goals as goal

pub returns-clause-size : goal.returns-clause-size
returns-clause-size c = λ lists nets edit tree kept made is.
    (let changed = size_changed lists nets edit tree kept c.args.differences.now made in
    let told = c.told_size-after.ensures in
    omega (arith, changed, told, is))

pub returns-then-after-from-clause-stops : goal.returns-then-after-from-clause-stops
returns-then-after-from-clause-stops c = λ lists nets edit tree kept made is.
    (let changed = size_changed lists nets edit tree kept c.args.differences.now made in
    let told = c.told_size-after.ensures in
    let limit = c.from.ensures in
    let large = c.if-after-from.true in
    omega (arith, changed, told, limit, large, is))
