use Rattle.std.proofs.Common.{◌∙◌, ap}
use Rattle.occ_tree.specs.Places.{forest}
use Rattle.just_check.proofs.Deciding.{same_rows}
use Rattle.just_check.proofs.auditing.decide_rest.Goals as goal

pub loop-checked-preserved : goal.loop-checked-preserved
loop-checked-preserved c =
    let inv = c.loop-checked.invariant in
    let ensured = c.in_ok-decide_next.ensures in
    record { taken = ensured.taken; tree = ap forest ensured.tree ∙ inv.tree; nodes = ensured.nodes ∙ inv.nodes }

pub returns-clause-rows : goal.returns-clause-rows
returns-clause-rows c = same_rows c.loop-checked.checked c.args.checked.now c.loop-checked.invariant.tree c.loop-checked.invariant.nodes
