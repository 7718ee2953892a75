use Rattle.std.proofs.Common.{ap, subst}
use Rattle.tmm_model.specs.declared.point.PointName.TheVariants.{Begin}
use Rattle.tmm_model.specs.Moments.{At, along}
use Rattle.spots.specs.Forest.{IsFound}
use Rattle.occ_tree.specs.Places.{forest}
use Rattle.belief_table.proofs.erasing.find_root.Goals as goal

pub returns-clause-found : goal.returns-clause-found
returns-clause-found c = subst (λ k. IsFound (forest c.args.tree.now) k c.find.result) (ap (along (At (Begin c.args.name))) c.make.ensures) c.find.ensures
