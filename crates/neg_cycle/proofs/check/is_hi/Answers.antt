use Rattle.std.proofs.Common.{◌≡◌, ◌↔◌, ℤ, IsTrue, subst, sym, rules, w64}
use Rattle.std.specs.List.{Contains}
use Rattle.std.specs.Int.RustNames.{FitsSigned}
use Rattle.std.proofs.lemmas.Int.{to_z-of_z}
use Rattle.tmm_model.specs.declared.bound.Bound.{Bound}
use Rattle.tmm_model.specs.declared.walk.Side.TheVariants.{Hi}
use Rattle.tmm_model.specs.declared.walk.WalkStep.{WalkStep}
use Rattle.tmm_model.specs.Standing.{hi_steps}
use Rattle.neg_cycle.proofs.Checked.{IsTrue-one}
use Rattle.neg_cycle.proofs.check.is_hi.Goals as goal

pub returns-in-Finite : goal.returns-in-Finite
returns-in-Finite c =
    let upper : ℤ → WalkStep = λ w. record { premise = c.args.name; side = Hi; from = c.args.from.now; to = c.args.to.now; weight = w } in
    let fits : FitsSigned w64 c.in-Finite.hi = search rules in
    subst (λ (hi : Bound). IsTrue c.is_same.result ↔ Contains (hi_steps c.args.name c.args.from.now c.args.to.now hi) c.args.step.now) (sym c.in-Finite.is)
    (IsTrue-one c.is_same.result (upper c.in-Finite.hi) c.args.step.now
    (subst (λ (w : ℤ). IsTrue c.is_same.result ↔ (c.args.step.now ≡ upper w)) (to_z-of_z w64 c.in-Finite.hi fits) c.is_same.ensures))
