use Rattle.std.proofs.Common.{◌≡◌, Some, None, subst}
use Rattle.std.proofs.lemmas.Result.{on_ok_weaker}
use Rattle.tmm_model.specs.declared.point.PointName.TheVariants.{Begin}
use Rattle.tmm_model.specs.Beliefs.{root_of}
use Rattle.tmm_model.specs.Moments.{At}
use Rattle.just_check.specs.declared.expected.Origin.{Origin}
use Rattle.just_check.specs.Checking.{AwaitsRoot}
use Rattle.just_check.specs.Origins.{Awaits}
use Rattle.just_check.proofs.Expecting.{root_awaited}
use Rattle.just_check.proofs.auditing.expect_root.Goals as goal

pub returns-in-Some : goal.returns-in-Some
returns-in-Some c =
    let old = c.args.expected.now in
    let new = c.add.new.self in
    let o : Origin = record { event = None; name = c.in-Some.name } in
    let is : Some (At (Begin c.in-Some.name)) ≡ root_of c.args.premise.now = c.in-Some.ensures in
    let go : Awaits old new o → AwaitsRoot old new (root_of c.args.premise.now) = λ awaits. subst (AwaitsRoot old new) is (root_awaited old new c.in-Some.name awaits) in
    on_ok_weaker c.add.result go c.add.ensures
