use Rattle.std.proofs.Common.{◌≡◌, ◌∙◌, ℕ, List, get_or, ap, sym, subst, rules, arith, refl, Bool, true, false, not, ℤ, w64}
use Rattle.std.specs.Prelude.{IsTrue, IsFalse}
use Rattle.std.specs.Int.RustNames.{FitsSigned}
use Rattle.std.proofs.lemmas.Bool.{false≢true}
use Rattle.std.proofs.lemmas.Int.{to_z-of_z}
use Rattle.std.proofs.lemmas.List.{get_or_default}
use Rattle.tmm_model.specs.declared.bound.Bound.{Bound}
use Rattle.tmm_model.specs.declared.bound.Bound.TheVariants.{Free}
use Rattle.tmm_model.specs.Bounds.{IfFinite, IsWithin, after}
use Rattle.tmm_model.specs.Walks.{Arc}
use Rattle.walk_theory.specs.LeastWalks.{AtMost, IsFar}
use Rattle.dist_net.specs.declared.Edge.{Edge}
use Rattle.dist_net.specs.Net.{Net, IsInUse, arc_of, arcs_of}
use Rattle.dist_net.specs.Cells.{seen}
use Rattle.dist_net.proofs.Ends.{ends_in_use, in_places}
use Rattle.dist_net.proofs.Premises.{weight_of}
use Rattle.dist_repair.specs.Rows.{rest_of, row_of, IsDone}
use Rattle.dist_repair.proofs.Left.{left_sub}
use Rattle.dist_repair.proofs.Looking.{IsDone-idle}
use Rattle.dist_repair.proofs.Suspects.{edge_read}
use Rattle.dist_repair.proofs.is_idle.Goals as goal

pub sum_after-requires-clause-light : goal.sum_after-requires-clause-light
sum_after-requires-clause-light c =
    let edges : List Edge = c.args.net.now.present.edges in
    let e : Edge = c.index-edges-i.result in
    let at : e ≡ get_or edges c.args.i e = c.index-edges-i.is ∙ ap (λ (t : List Edge). get_or t c.args.i e) c.edges.ensures.list in
    let fits : FitsSigned w64 c.index-edges-i.result.weight = search rules in
    subst (IsWithin 1000000000) (sym (to_z-of_z w64 c.index-edges-i.result.weight fits)) (weight_of edges e c.edges.ensures.light (c.args.i, c.requires.i, sym at))

turned : (b : Bool) → IsTrue (not b) → IsFalse b
turned true h = absurd (false≢true h)
turned false h = refl

pub returns : goal.returns
returns c answer place d =
    let net : Net = c.args.net.now.present in
    let edges : List Edge = net.edges in
    let e : Edge = c.index-edges-i.result in
    let at : e ≡ get_or edges c.args.i e = c.index-edges-i.is ∙ ap (λ (t : List Edge). get_or t c.args.i e) c.edges.ensures.list in
    let row : ℕ → Bound = row_of c.args.row.now in
    let first : Bound = c.index-row-edge.result in
    let fits : FitsSigned w64 c.index-edges-i.result.weight = search rules in
    let fits_sum : FitsSigned w64 c.sum_after.result = search rules in
    let in_from : IsInUse net.names e.from = (ends_in_use net.names edges e c.edges.ensures.in_use (c.args.i, c.requires.i, sym at)).0 in
    let read : first ≡ row_of c.row.result.now e.from =
    c.index-row-edge.is ∙ get_or_default c.row.result.now e.from first Free (omega (arith, c.row.ensures.places, in_places net.names c.edges.ensures.names e.from in_from)) in
    let is_far : IsFar (arcs_of edges) c.args.a e.from first = subst (IsFar (arcs_of edges) c.args.a e.from) (sym read) (c.row.ensures.least e.from in_from) in
    let sum : seen c.sum_after.result ≡ after e.weight first = c.sum_after.ensures.sum ∙ ap (λ (w : ℤ). after w first) (to_z-of_z w64 c.index-edges-i.result.weight fits) in
    let over : IfFinite (seen c.sum_after.result) (AtMost c.at.result) =
    subst (λ (z : ℤ). IfFinite (seen z) (AtMost c.at.result)) (to_z-of_z w64 c.sum_after.result fits_sum) (c.exceeds.ensures.other (turned c.exceeds.result answer)) in
    let low : IfFinite (after e.weight first) (AtMost (row e.to)) =
    subst (λ (y : Bound). IfFinite (after e.weight first) (AtMost y)) c.at.ensures (subst (λ (x : Bound). IfFinite x (AtMost c.at.result)) sum over) in
    let rest : List (Arc ℕ) = rest_of net place in
    subst (λ (f : Edge). IsDone rest c.args.a (arc_of f) row) (edge_read edges c.args.i e c.requires.i at d)
    (IsDone-idle (arcs_of edges) rest (left_sub (arcs_of edges) place) c.args.a (arc_of e) row first is_far low)
