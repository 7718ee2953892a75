use Rattle.std.proofs.Common.{subst, rules, w64}
use Rattle.dist_net.proofs.Listing.{IsMarking-start}
use Rattle.std.proofs.lemmas.Int.{to_z-of_z}
use Rattle.std.specs.Int.RustNames.{FitsSigned}
use Rattle.tmm_model.specs.declared.bound.Bound.{Bound}
use Rattle.dist_net.specs.Table.{IsSet}
use Rattle.dist_net.proofs.Tables.{IsSet-lowered}
use Rattle.dist_net.proofs.table.lower.Goals as goal

pub returns-in_default-clause-marking : goal.returns-in_default-clause-marking
returns-in_default-clause-marking c = IsMarking-start c.args.changes.now c.args.table.now

pub returns-clause-set : goal.returns-clause-set
returns-clause-set c =
    let fits : FitsSigned w64 c.in-Some.sum = search rules in
    IsSet-lowered c.args.table.now c.write.new.table c.args.a c.args.b c.args.to c.args.first _ c.in-Some.sum _ _ _ c.requires.places c.requires.row c.requires.column c.requires.over
    (to_z-of_z w64 c.args.first c.ranges.first) c.index-table-to.is c.index-table-a.is c.in-Some.ensures.0 c.in-Some.ensures.1 (to_z-of_z w64 c.in-Some.sum fits) (subst (λ (x : Bound). IsSet c.args.table.now c.args.a c.args.b x c.write.new.table) c.of.ensures c.write.ensures.set)
