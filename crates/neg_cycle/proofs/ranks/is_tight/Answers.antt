use Rattle.std.proofs.Common.{◌≡◌, ◌∙◌, List, get_or, ap, sym, subst, rules, ℤ, ◌+ℤ◌, w64, to_z, of_z}
use Rattle.std.proofs.lemmas.Int.{to_z-of_z}
use Rattle.std.proofs.lemmas.List.{get_or_default}
use Rattle.std.specs.Int.RustNames.{FitsSigned}
use Rattle.tmm_model.specs.declared.bound.Bound.{Bound}
use Rattle.tmm_model.specs.declared.bound.Bound.TheVariants.{Finite}
use Rattle.tmm_model.specs.Bounds.{IsWithin}
use Rattle.walk_theory.specs.LeastWalks.{IsFar}
use Rattle.dist_net.specs.declared.Edge.{Edge}
use Rattle.dist_net.specs.Net.{arcs_of}
use Rattle.dist_net.proofs.Premises.{weight_of}
use Rattle.dist_net.proofs.Sums.{FitsSigned-sum, sum_of_fields}
use Rattle.neg_cycle.specs.Ranks.{IsTight}
use Rattle.neg_cycle.proofs.ranks.is_tight.Goals as goal

pub overflow_add-edge : goal.overflow_add-edge
overflow_add-edge c =
    let at : c.index-edges-place.result ≡ get_or c.args.net.now.present.edges c.args.place c.index-edges-place.result = c.index-edges-place.is ∙ ap (λ (t : List Edge). get_or t c.args.place c.index-edges-place.result) c.edges.ensures.list in
    let w : IsWithin 1000000000 c.index-edges-place.result.weight = weight_of c.args.net.now.present.edges c.index-edges-place.result c.edges.ensures.light (c.args.place, c.requires.place, sym at) in
    let small : IsWithin 255000000000 c.in-Finite.rest = c.in-Finite.ensures.small in
    let fits : FitsSigned w64 c.index-edges-place.result.weight = search rules in
    let fits_rest : FitsSigned w64 c.in-Finite.rest = search rules in
    FitsSigned-sum c.index-edges-place.result.weight c.in-Finite.rest _ _ (to_z-of_z w64 c.index-edges-place.result.weight fits) (to_z-of_z w64 c.in-Finite.rest fits_rest) w small

pub returns-in-Finite-clause-tight : goal.returns-in-Finite-clause-tight
returns-in-Finite-clause-tight c answer d =
    let at : c.index-edges-place.result ≡ get_or c.args.net.now.present.edges c.args.place c.index-edges-place.result = c.index-edges-place.is ∙ ap (λ (t : List Edge). get_or t c.args.place c.index-edges-place.result) c.edges.ensures.list in
    let w : IsWithin 1000000000 c.index-edges-place.result.weight = weight_of c.args.net.now.present.edges c.index-edges-place.result c.edges.ensures.light (c.args.place, c.requires.place, sym at) in
    let small : IsWithin 255000000000 c.in-Finite.rest = c.in-Finite.ensures.small in
    let fits : FitsSigned w64 c.index-edges-place.result.weight = search rules in
    let fits_rest : FitsSigned w64 c.in-Finite.rest = search rules in
    let sum : to_z w64 (of_z w64 (to_z w64 (of_z w64 c.index-edges-place.result.weight) +ℤ to_z w64 (of_z w64 c.in-Finite.rest))) ≡ c.index-edges-place.result.weight +ℤ c.in-Finite.rest =
    sum_of_fields c.index-edges-place.result.weight c.in-Finite.rest fits fits_rest w small in
    let same : c.far-in-Finite.result ≡ Finite (c.index-edges-place.result.weight +ℤ c.in-Finite.rest) = c.is.ensures.0 answer ∙ ap (λ (z : ℤ). Finite z) sum in
    subst (IsTight c.args.net.now.present.edges c.args.b) (at ∙ get_or_default c.args.net.now.present.edges c.args.place c.index-edges-place.result d c.requires.place) (
      c.in-Finite.rest,
      c.in-Finite.ensures.least,
      subst (λ (x : Bound). IsFar (arcs_of c.args.net.now.present.edges) c.index-edges-place.result.from c.args.b x) same c.far-in-Finite.ensures.least,
    )
