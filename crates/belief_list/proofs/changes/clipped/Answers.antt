use Rattle.std.proofs.Common.{arith}
use Rattle.std.proofs.lemmas.Grind.{common_steps}
use Rattle.occ_tree.specs.Places.{forest}
use Rattle.belief_list.proofs.changes.clipped.Goals as goal

pub loop-row-preserved : goal.loop-row-preserved
loop-row-preserved c = λ f matched.
    grind (arith, common_steps, c.loop-row.invariant f matched, c.new_clip.ensures.clip (forest c.args.tree.now) f matched (c.requires c.loop-row.row-index _ c.loop-row-test.true))

pub returns : goal.returns
returns c = λ f matched. grind (arith, common_steps, c.loop-row.invariant f matched)
