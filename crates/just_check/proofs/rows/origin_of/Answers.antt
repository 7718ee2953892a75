use Rattle.std.proofs.Common.{◌≡◌, ◌∙◌, List, sym, ap}
use Rattle.tmm_model.specs.declared.point.PointName.TheVariants.{Begin}
use Rattle.tmm_model.specs.Moments.{Moment, At, After, along, moment_of}
use Rattle.spots.specs.Forest.{Forest}
use Rattle.list_theory.proofs.Elements.{In}
use Rattle.just_check.specs.Origins.{Knows}
use Rattle.just_check.proofs.Joining.{last_rule}
use Rattle.just_check.proofs.rows.origin_of.Goals as goal

pub returns-in_err-find-in-Some : goal.returns-in_err-find-in-Some
returns-in_err-find-in-Some c =
    let row = c.args.row.now in
    let t = along (At (Begin row.root)) c.in-Some.way.now in
    let is : moment_of row ≡ After t c.in-Some.rule.now = last_rule row.root row.rules.items c.in-Some.way.now c.in-Some.rule.now (sym c.items.ensures ∙ c.in-Some.ensures.cases.0) in
    let none : (f : Forest) (b : List Moment) → Knows f b c.args.expected.now → (u : Moment) × (r : _) × (moment_of row ≡ After u r) × (In u b → ⊥) = λ f b knows. (t, c.in-Some.rule.now, is, c.in_err-find-in-Some.ensures f b knows) in
    rw c.from_residual.ensures none

pub returns-in_ok-find-in-Some : goal.returns-in_ok-find-in-Some
returns-in_ok-find-in-Some c f b knows =
    let row = c.args.row.now in
    let is = last_rule row.root row.rules.items c.in-Some.way.now c.in-Some.rule.now (sym c.items.ensures ∙ c.in-Some.ensures.cases.0) in
    let (live, here) = c.in_ok-find-in-Some.ensures f b knows in
    (live, ap (λ t. After t c.in-Some.rule.now) here ∙ sym is)
