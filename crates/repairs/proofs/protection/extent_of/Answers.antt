use Rattle.std.proofs.Common.{ap}
use Rattle.tmm_model.specs.declared.premise.Premise.TheVariants.{Protect}
use Rattle.tmm_model.specs.Verdicts.{name_cause}
use Rattle.repairs.specs.Repairs.{is_protection}
use Rattle.repairs.proofs.Protected.{sort_found}
use Rattle.repairs.proofs.protection.extent_of.Goals as goal

pub returns-in-Some-clause-known : goal.returns-in-Some-clause-known
returns-in-Some-clause-known c =
    let (fact, is) = c.in-Some.ensures.found in
    ap (λ o. name_cause o c.args.name is_protection)
    (sort_found c.args.standing.now.present.premises c.invariants.ensures.well_named c.args.name (Protect c.args.name fact c.in-Some.extent.from c.in-Some.extent.to) is)
