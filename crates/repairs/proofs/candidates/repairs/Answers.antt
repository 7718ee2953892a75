use Rattle.std.proofs.Common.{sym, subst}
use Rattle.list_theory.specs.WellNamed.{IsWellNamed}
use Rattle.repairs.specs.Repairs.{AreThose, IsRepair, IsFreeName}
use Rattle.repairs.proofs.Broken.{told_in, none_in}
use Rattle.repairs.proofs.candidates.repairs.Goals as goal

pub try_candidates-requires-clause-aim : goal.try_candidates-requires-clause-aim
try_candidates-requires-clause-aim g c =
    let told = told_in (g.M.MapCore.list c.args.core.now) c.standing.result.now.present c.standing-2.result.now.present c.standing.ensures c.invariants.ensures.well_named c.standing-2.ensures c.args.name
    c.in-Ok.extent.from c.in-Ok.extent.to c.in-Ok.ensures.found c.items.result.now c.in_ok-broken.broken.items c.items.ensures c.in_ok-broken.ensures c.in-Some.report.now c.in-Some.ensures.found in
    record {
      well_formed = c.requires.well_formed;
      well_named = subst (λ l. IsWellNamed l.premises) c.standing.ensures c.invariants.ensures.well_named;
      free = subst (λ l. IsFreeName l c.free_name.result) c.standing-in-Some.ensures c.free_name.ensures.free;
      named = c.free_name.ensures.named;
      broken = told.broken;
    }

pub try_candidates-requires-clause-broken : goal.try_candidates-requires-clause-broken
try_candidates-requires-clause-broken g c =
    let told = told_in (g.M.MapCore.list c.args.core.now) c.standing.result.now.present c.standing-2.result.now.present c.standing.ensures c.invariants.ensures.well_named c.standing-2.ensures c.args.name
    c.in-Ok.extent.from c.in-Ok.extent.to c.in-Ok.ensures.found c.items.result.now c.in_ok-broken.broken.items c.items.ensures c.in_ok-broken.ensures c.in-Some.report.now c.in-Some.ensures.found in
    told.fails

pub returns-in-Some-clause-repairs : goal.returns-in-Some-clause-repairs
returns-in-Some-clause-repairs g c =
    let s = g.M.MapCore.list c.args.core.now in
    let told = told_in s c.standing.result.now.present c.standing-2.result.now.present c.standing.ensures c.invariants.ensures.well_named c.standing-2.ensures c.args.name c.in-Ok.extent.from
    c.in-Ok.extent.to c.in-Ok.ensures.found c.items.result.now c.in_ok-broken.broken.items c.items.ensures c.in_ok-broken.ensures c.in-Some.report.now c.in-Some.ensures.found in
    subst (λ tried. AreThose (IsRepair s c.args.name) tried c.in_ok-try_candidates-in-Some.field-0.items) (sym told.answers) c.in_ok-try_candidates-in-Some.ensures.repairs

pub returns-clause-repairs : goal.returns-clause-repairs
returns-clause-repairs g c =
    let s = g.M.MapCore.list c.args.core.now in
    let none = none_in s c.standing.result.now.present c.standing-2.result.now.present c.standing.ensures c.invariants.ensures.well_named c.standing-2.ensures c.args.name c.in-Ok.extent.from
    c.in-Ok.extent.to c.in-Ok.ensures.found c.items.result.now c.in_ok-broken.broken.items c.items.ensures c.in_ok-broken.ensures c.in-None.ensures.other in
    subst (λ tried. AreThose (IsRepair s c.args.name) tried c.make.result.items) (sym none) c.make.ensures
