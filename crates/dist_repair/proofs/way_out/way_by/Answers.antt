use Rattle.std.proofs.Common.{◌≡◌, ◌∙◌, List, get_or, ap, sym, subst, rules, w64}
use Rattle.std.proofs.lemmas.Int.{to_z-of_z}
use Rattle.std.specs.Int.RustNames.{FitsSigned}
use Rattle.tmm_model.specs.Bounds.{IsWithin}
use Rattle.dist_net.specs.declared.Edge.{Edge}
use Rattle.dist_net.proofs.Premises.{weight_of}
use Rattle.dist_repair.proofs.way_out.way_by.Goals as goal

pub through-requires-clause-step : goal.through-requires-clause-step
through-requires-clause-step c =
    let e : Edge = c.index-edges-j.result in
    let at : e ≡ get_or c.args.net.now.present.edges c.args.j e = c.index-edges-j.is ∙ ap (λ (t : List Edge). get_or t c.args.j e) c.edges.ensures.list in
    let fits : FitsSigned w64 c.index-edges-j.result.weight = search rules in
    subst (IsWithin 1000000000) (sym (to_z-of_z w64 c.index-edges-j.result.weight fits))
    (weight_of c.args.net.now.present.edges e c.edges.ensures.light (c.args.j, c.requires.j, sym at))
