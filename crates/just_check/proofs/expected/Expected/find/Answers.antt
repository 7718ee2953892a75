use Rattle.std.proofs.Common.{◌∙◌, suc, Some, None, List, take, drop, sym, ap, subst}
use Rattle.tmm_model.specs.declared.point.PointName.TheVariants.{Begin}
use Rattle.tmm_model.specs.Moments.{Moment, At, After, along}
use Rattle.belief_theory.proofs.Moments.{along-push}
use Rattle.list_theory.proofs.Elements.{In}
use Rattle.spots.specs.Forest.{Forest}
use Rattle.supports.proofs.Taken.{next_taken}
use Rattle.just_check.specs.declared.expected.Origin.{Origin}
use Rattle.just_check.specs.Origins.{Knows}
use Rattle.just_check.proofs.Origins.{known, unknown, closed_along, on_way}
use Rattle.just_check.proofs.expected.Expected.find.Goals as goal

pub returns-in_err-x : goal.returns-in_err-x
returns-in_err-x c =
    let e = c.args.self.now in
    let k = At (Begin c.args.root) in
    let o : Origin = record { event = None; name = c.args.root } in
    let none : (f : Forest) (b : List Moment) → Knows f b e → In (along k c.args.rules.now) b → ⊥ = λ f b knows at. unknown f b e knows o tt (sym c.in_err-x.ensures) (closed_along f b e knows k c.args.rules.now at) in
    rw c.from_residual.ensures none

pub loop-rule-init : goal.loop-rule-init
loop-rule-init c f b knows = known f b c.args.self.now knows (record { event = None; name = c.args.root }) c.in_ok-x.x (sym c.in_ok-x.ensures)

pub returns-in_err-x-2 : goal.returns-in_err-x-2
returns-in_err-x-2 c =
    let e = c.args.self.now in
    let rs = c.args.rules.now in
    let i = c.loop-rule.rule-index in
    let r = c.rule-item.result in
    let k = At (Begin c.args.root) in
    let o : Origin = record { event = Some c.loop-rule.x; name = r } in
    let none : (f : Forest) (b : List Moment) → Knows f b e → In (along k rs) b → ⊥ = λ f b knows at.
    let (live, here) = c.loop-rule.invariant f b knows in
    let there : In (After (along k (take i rs)) r) b = closed_along f b e knows (After (along k (take i rs)) r) (drop (suc i) rs) (subst (λ m. In m b) (on_way f b e knows k rs i r c.loop-rule-test.true c.rule-item.is) at) in
    unknown f b e knows o live (sym c.in_err-x-2.ensures) (subst (λ m. In (After m r) b) (sym here) there) in
    rw c.from_residual-in_err-x-2.ensures none

pub loop-rule-preserved : goal.loop-rule-preserved
loop-rule-preserved c f b knows =
    let e = c.args.self.now in
    let rs = c.args.rules.now in
    let i = c.loop-rule.rule-index in
    let r = c.rule-item.result in
    let k = At (Begin c.args.root) in
    let (live, here) = c.loop-rule.invariant f b knows in
    let o : Origin = record { event = Some c.loop-rule.x; name = r } in
    let (live_y, is) = known f b e knows o c.in_ok-x-2.x (sym c.in_ok-x-2.ensures) in
    (live_y, is ∙ ap (λ m. After m r) here ∙ sym (ap (along k) (next_taken rs i r c.loop-rule-test.true c.rule-item.is) ∙ along-push k (take i rs) r))
