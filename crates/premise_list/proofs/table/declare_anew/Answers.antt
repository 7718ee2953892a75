use Rattle.std.proofs.Common.{arith}
use Rattle.list_theory.proofs.WellNamed.{points_in-few}
use Rattle.premise_list.proofs.table.declare_anew.Goals as goal

pub overflow_add-result : goal.overflow_add-result
overflow_add-result c = let few = points_in-few c.args.premises.now in omega (arith, c.points_count.ensures, c.requires.few)
