use Rattle.std.proofs.Common.{arith}
use Rattle.std.proofs.lemmas.Grind.{common_steps}
use Rattle.belief_list.proofs.changes.gone.Goals as goal

pub loop-row-preserved : goal.loop-row-preserved
loop-row-preserved c = λ f matched. grind (arith, common_steps, c.loop-row.invariant f matched, c.is_gone.ensures f matched)

pub returns : goal.returns
returns c = λ f matched. grind (arith, common_steps, c.loop-row.invariant f matched)
