use Rattle.std.proofs.Common.{◌≡◌, ◌∙◌, List, get_or, ap, sym, subst, rules, ℤ, ◌+ℤ◌, w64, to_z, of_z}
use Rattle.std.specs.Int.RustNames.{FitsSigned}
use Rattle.std.proofs.lemmas.Bool.{false≢true}
use Rattle.tmm_model.specs.declared.bound.Bound.{Bound}
use Rattle.tmm_model.specs.declared.bound.Bound.TheVariants.{Finite}
use Rattle.tmm_model.specs.Bounds.{IsWithin}
use Rattle.walk_theory.specs.LeastWalks.{IsFar}
use Rattle.dist_net.specs.declared.Edge.{Edge}
use Rattle.dist_net.specs.Net.{arc_of, arcs_of}
use Rattle.dist_net.proofs.Premises.{weight_of}
use Rattle.dist_repair.specs.Rows.{IsTightArc}
use Rattle.dist_repair.proofs.Steps.{sum_fits, sum_seen}
use Rattle.dist_repair.proofs.Suspects.{edge_read, tight_read, not_tight_free}
use Rattle.dist_repair.proofs.is_tight.Goals as goal

pub overflow_add-first : goal.overflow_add-first
overflow_add-first c =
    let at : c.index-edges-i.result ≡ get_or c.args.net.now.present.edges c.args.i c.index-edges-i.result = c.index-edges-i.is ∙ ap (λ (t : List Edge). get_or t c.args.i c.index-edges-i.result) c.edges.ensures.list in
    let light : IsWithin 1000000000 c.index-edges-i.result.weight = weight_of c.args.net.now.present.edges c.index-edges-i.result c.edges.ensures.light (c.args.i, c.requires.i, sym at) in
    let fits : FitsSigned w64 c.index-edges-i.result.weight = search rules in
    let fits_first : FitsSigned w64 c.in-Finite.first = search rules in
    sum_fits c.in-Finite.first c.index-edges-i.result.weight fits_first fits c.in-Finite.ensures.small light

pub returns-in-Finite : goal.returns-in-Finite
returns-in-Finite c =
    let edges : List Edge = c.args.net.now.present.edges in
    let e : Edge = c.index-edges-i.result in
    let at : e ≡ get_or edges c.args.i e = c.index-edges-i.is ∙ ap (λ (t : List Edge). get_or t c.args.i e) c.edges.ensures.list in
    let light : IsWithin 1000000000 e.weight = weight_of edges e c.edges.ensures.light (c.args.i, c.requires.i, sym at) in
    let fits : FitsSigned w64 c.index-edges-i.result.weight = search rules in
    let fits_first : FitsSigned w64 c.in-Finite.first = search rules in
    let sum : to_z w64 (of_z w64 (to_z w64 (of_z w64 c.in-Finite.first) +ℤ to_z w64 (of_z w64 e.weight))) ≡ c.in-Finite.first +ℤ e.weight = sum_seen c.in-Finite.first e.weight fits_first fits c.in-Finite.ensures.small light in (
      λ answer d.
          subst (λ (x : Edge). IsTightArc (arcs_of edges) (arc_of x) c.args.a) (edge_read edges c.args.i e c.requires.i at d)
          (c.in-Finite.first, c.in-Finite.ensures.least, subst (λ (x : Bound). IsFar (arcs_of edges) c.args.a e.to x) (c.is.ensures.0 answer ∙ ap (λ (z : ℤ). Finite z) sum) c.far-in-Finite.ensures.least),
      λ tight.
          (let t : IsTightArc (arcs_of edges) (arc_of e) c.args.a = subst (λ (x : Edge). IsTightArc (arcs_of edges) (arc_of x) c.args.a) (sym at) (tight e) in
          c.is.ensures.1 (tight_read (arcs_of edges) (arc_of e) c.args.a c.in-Finite.first c.far-in-Finite.result t c.in-Finite.ensures.least c.far-in-Finite.ensures.least ∙ ap (λ (z : ℤ). Finite z) (sym sum))),
    )

pub returns-in-Free : goal.returns-in-Free
returns-in-Free c =
    let edges : List Edge = c.args.net.now.present.edges in
    let e : Edge = c.index-edges-i.result in
    let at : e ≡ get_or edges c.args.i e = c.index-edges-i.is ∙ ap (λ (t : List Edge). get_or t c.args.i e) c.edges.ensures.list in (
      λ answer. absurd (false≢true answer),
      λ tight.
          (let t : IsTightArc (arcs_of edges) (arc_of e) c.args.a = subst (λ (x : Edge). IsTightArc (arcs_of edges) (arc_of x) c.args.a) (sym at) (tight e) in
          absurd (not_tight_free (arcs_of edges) (arc_of e) c.args.a t c.in-Free.ensures.least)),
    )
