use Rattle.std.proofs.Common.{◌≡◌, ◌∙◌, ℕ, Option, None, Some, slice_index_or, sym, inl, inr, arith}
use Rattle.std.proofs.lemmas.Bool.{cases_lt}
use Rattle.std.proofs.lemmas.List.{get_or_past}
use Rattle.row_links.proofs.links.Links.reserve_rows.Goals as goal

none_some : (h : ℕ) → None ≡ Some h → ⊥
none_some h e = cc

pub returns-clause-ok : goal.returns-clause-ok
returns-clause-ok g c = λ f h is.
    let heads = c.args.heads.now in
    elim (cases_lt f c.loop-f.f) [
      | inl within ↦ c.loop-f.invariant.ok f h within is
      | inr past ↦ absurd (none_some h (sym (get_or_past heads f None (omega (arith, past, c.loop-f-test.false, c.loop-f.auto.f-end))) ∙ is))
    ]
