use Rattle.std.proofs.Common.{◌≡◌, ◌∙◌, List, get_or, ap, sym, subst, rules, ℤ, ◌+ℤ◌, w64, to_z, of_z}
use Rattle.std.specs.Int.RustNames.{FitsSigned}
use Rattle.tmm_model.specs.declared.bound.Bound.{Bound}
use Rattle.tmm_model.specs.declared.bound.Bound.TheVariants.{Finite}
use Rattle.tmm_model.specs.Bounds.{IsWithin}
use Rattle.walk_theory.specs.LeastWalks.{IsFar}
use Rattle.dist_net.specs.declared.Edge.{Edge}
use Rattle.dist_net.specs.Net.{arcs_of}
use Rattle.dist_net.proofs.Premises.{weight_of}
use Rattle.dist_repair.proofs.Steps.{sum_fits, sum_seen}
use Rattle.dist_repair.proofs.Suspects.{edge_read}
use Rattle.dist_repair.proofs.is_way_on.Goals as goal

pub overflow_add-rest : goal.overflow_add-rest
overflow_add-rest c =
    let at : c.index-edges-j.result ≡ get_or c.args.net.now.present.edges c.args.j c.index-edges-j.result = c.index-edges-j.is ∙ ap (λ (t : List Edge). get_or t c.args.j c.index-edges-j.result) c.edges.ensures.list in
    let light : IsWithin 1000000000 c.index-edges-j.result.weight = weight_of c.args.net.now.present.edges c.index-edges-j.result c.edges.ensures.light (c.args.j, c.requires.j, sym at) in
    let fits : FitsSigned w64 c.index-edges-j.result.weight = search rules in
    let fits_rest : FitsSigned w64 c.args.rest = search rules in
    sum_fits c.args.rest c.index-edges-j.result.weight fits_rest fits c.requires.rest light

pub returns : goal.returns
returns c answer d =
    let edges : List Edge = c.args.net.now.present.edges in
    let e : Edge = c.index-edges-j.result in
    let at : e ≡ get_or edges c.args.j e = c.index-edges-j.is ∙ ap (λ (t : List Edge). get_or t c.args.j e) c.edges.ensures.list in
    let light : IsWithin 1000000000 e.weight = weight_of edges e c.edges.ensures.light (c.args.j, c.requires.j, sym at) in
    let fits : FitsSigned w64 c.index-edges-j.result.weight = search rules in
    let fits_rest : FitsSigned w64 c.args.rest = search rules in
    let sum : to_z w64 (of_z w64 (to_z w64 (of_z w64 c.args.rest) +ℤ to_z w64 (of_z w64 e.weight))) ≡ c.args.rest +ℤ e.weight = sum_seen c.args.rest e.weight fits_rest fits c.requires.rest light in
    subst (λ (x : Edge). IsFar (arcs_of edges) x.from c.args.to (Finite (c.args.rest +ℤ x.weight))) (edge_read edges c.args.j e c.requires.j at d)
    (subst (λ (x : Bound). IsFar (arcs_of edges) e.from c.args.to x) (c.is.ensures.0 answer ∙ ap (λ (z : ℤ). Finite z) sum) c.far.ensures.least)
