use Rattle.std.proofs.Common.{◌≡◌, ◌∙◌, ap, sym, rules, w64, ℤ}
use Rattle.std.specs.Int.RustNames.{FitsSigned}
use Rattle.std.proofs.lemmas.Bool.{false≢true}
use Rattle.std.proofs.lemmas.Int.{to_z-of_z}
use Rattle.tmm_model.specs.declared.bound.Bound.TheVariants.{Free}
use Rattle.tmm_model.specs.Bounds.{lesser, bound_plus}
use Rattle.dist_net.specs.Cells.{seen}
use Rattle.dist_repair.proofs.is_reached.Goals as goal

-- what the code compares with
read : (c : goal.After-is) → c.lesser.result ≡ bound_plus c.args.first c.args.rest
read c =
    let fits : FitsSigned w64 c.sum_over.result = search rules in
    c.lesser.ensures ∙ (ap (λ (z : ℤ). lesser Free (seen z)) (to_z-of_z w64 c.sum_over.result fits) ∙ ap (lesser Free) c.sum_over.ensures)

pub returns-clause-other : goal.returns-clause-other
returns-clause-other c none s far_is whole = false≢true (sym none ∙ c.is.ensures.1 (far_is ∙ sym (read c ∙ whole)))

pub returns-clause-same : goal.returns-clause-same
returns-clause-same c answer = c.is.ensures.0 answer ∙ read c
