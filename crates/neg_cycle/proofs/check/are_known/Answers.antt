use Rattle.std.proofs.Common.{◌≡◌, ◌∙◌, ℕ, [], ◌∷◌, ◌++◌, inl, inr, get_or, ap, sym, subst, refl, arith}
use Rattle.std.specs.List.{Contains}
use Rattle.std.proofs.lemmas.Bool.{cases_eq}
use Rattle.std.proofs.lemmas.List.{get_or_default}
use Rattle.tmm_model.specs.Cycles.{steps_in}
use Rattle.neg_cycle.proofs.Checked.{refuted, no}
use Rattle.neg_cycle.proofs.check.are_known.Goals as goal

pub returns-then-not-is_known : goal.returns-then-not-is_known
returns-then-not-is_known c =
    refuted (λ all. no c.if-not-is_known.ensures (subst (Contains (steps_in (c.args.standing.now.present.premises ++ c.args.refused.now ∷ []))) (sym c.step-item.is) (all c.loop-step.step-index c.step-item.result c.loop-step-test.true)))

pub loop-step-preserved : goal.loop-step-preserved
loop-step-preserved c k d lt =
    elim (cases_eq k c.loop-step.step-index) [
      | inl same ↦ (let is : get_or c.args.steps.now k d ≡ c.step-item.result =
          ap (λ (i : ℕ). get_or c.args.steps.now i d) same ∙ (get_or_default c.args.steps.now c.loop-step.step-index d c.step-item.result c.loop-step-test.true ∙ sym c.step-item.is) in
          subst (Contains (steps_in (c.args.standing.now.present.premises ++ c.args.refused.now ∷ []))) (sym is) (c.if-not-is_known.ensures.0 refl))
      | inr other ↦ c.loop-step.invariant k d (omega (arith, lt, other))
    ]
