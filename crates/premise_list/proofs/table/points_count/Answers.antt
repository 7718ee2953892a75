use Rattle.std.proofs.Common.{arith, take}
use Rattle.std.proofs.lemmas.List.{length-take}
use Rattle.list_theory.proofs.WellNamed.{points_in-few, points_of-few}
use Rattle.premise_list.proofs.table.points_count.Goals as goal

pub overflow_add-count : goal.overflow_add-count
overflow_add-count c =
    let few = points_in-few (take c.loop-premise.premise-index c.args.premises.now) in
    let taken = length-take c.loop-premise.premise-index c.args.premises.now in
    let one = points_of-few c.premise-item.result in
    omega arith
