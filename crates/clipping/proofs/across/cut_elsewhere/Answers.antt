use Rattle.std.proofs.Common.{◌≡◌, ◌∙◌, inl, inr, Bool, false, subst, sym, arith}
use Rattle.std.specs.List.{list_any}
use Rattle.std.proofs.lemmas.Bool.{cases_lt}
use Rattle.tmm_model.specs.declared.token.TokenRow.{TokenRow}
use Rattle.tmm_model.specs.Tokens.{cuts}
use Rattle.clipping.specs.Across.{list_at}
use Rattle.clipping.specs.Rivals.{of_rivals}
use Rattle.clipping.proofs.across.cut_elsewhere.Goals.{then-i-own+in_default, else-i-own}
use Rattle.clipping.proofs.across.cut_elsewhere.Goals as goal

pub loop-i-preserved : goal.loop-i-preserved
loop-i-preserved g c j lt other =
    let lists = g.T.Tokens.lists c.args.tokens.now in
    let test : TokenRow g.row.S-Spot.Denot → Bool = cuts (of_rivals (g.R.Rivals.against c.args.rivals.now)) (g.S.Sure.distance c.args.order.now) c.args.k.now c.args.q in
    elim (cases_lt j c.loop-i.i) [
      | inl less ↦ c.loop-i.invariant j less other
      | inr more ↦
          (let here : c.loop-i.i ≡ j = omega arith in
          elim c.if-i-own.branch [
            | then-i-own+in_default w ↦ subst (λ i. list_any test (list_at lists i) ≡ false) here (w.cut_in.ensures.uncut w.in_default.is)
            | else-i-own w ↦ absurd (other (sym here ∙ w.if-i-own.false))
          ])
    ]
