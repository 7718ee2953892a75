use Rattle.std.proofs.Common.{sym, subst, ◌++◌, ap, refl, ◌∙◌}
use Rattle.std.specs.Prelude.{codes}
use Rattle.tmm_model.specs.Lines.{IsName}
use Rattle.tmm_words.proofs.Ends.{end_found, no_end}
use Rattle.tmm_words.proofs.Parts.{not_name}
use Rattle.tmm_words.proofs.points.point_name.Goals as goal

pub returns-in_err-of-in-Some : goal.returns-in_err-of-in-Some
returns-in_err-of-in-Some c =
    let ends = c.in-Some.ensures.cases in
    rw c.from_residual.ensures
    (no_end c.args.word.now c.in-Some.span.now c.as_slice-2.result.now c.as_slice-2.ensures ends.0 ends.1 (rw c.as_slice.ensures at (sym c.eq.ensures ∙ c.if-eq.false)) (not_name c.in-Some.span.now c.of.result c.of.ensures.some c.in_err-of-in-Some.was))

pub returns-in_ok-of-in-Some : goal.returns-in_ok-of-in-Some
returns-in_ok-of-in-Some c =
    let ends = c.in-Some.ensures.cases in
    let name = c.in_ok-of-in-Some.ensures in
    (subst IsName (sym name.value) (name.some.0 refl), end_found c.args.word.now c.in-Some.span.now c.as_slice-2.result.now c.as_slice-2.ensures ends.0 ends.1 ∙ ap (λ x. x ++ codes ".end") (sym name.value))
