use Rattle.std.proofs.Common.{◌≡◌, ◌∙◌, ℕ, List, get_or, ap, sym, arith}
use Rattle.dist_net.specs.declared.Edge.{Edge}
use Rattle.dist_net.specs.Net.{Net}
use Rattle.dist_repair.specs.Rows.{IsTo}
use Rattle.dist_repair.proofs.Left.{IsNet}
use Rattle.dist_repair.proofs.Starts.{below_limit}
use Rattle.dist_repair.proofs.Suspects.{edge_read}
use Rattle.dist_repair.proofs.Ways.{IsFarWithout-in}
use Rattle.dist_repair.proofs.way_in.draft_in.Goals as goal

pub returns-clause-far : goal.returns-clause-far
returns-clause-far c =
    let net : Net = c.args.net.now.present in
    let known : IsNet net = record { places = c.invariants.ensures.names; used = c.invariants.ensures.in_use; light = c.invariants.ensures.light; dates = c.invariants.ensures.dates } in
    let e : Edge = c.index-edges-place.result in
    let at : e ≡ get_or net.edges c.args.place e = c.index-edges-place.is ∙ ap (λ (t : List Edge). get_or t c.args.place e) c.edges.ensures.list in
    let v : ℕ = (get_or c.edges.result.now c.args.place e).to in
    let to : IsTo net c.args.place v = λ d. ap (λ (g : Edge). g.to) (sym (edge_read net.edges c.args.place e c.requires.place at d) ∙ c.index-edges-place.is) in
    IsFarWithout-in c.args.net.now c.loop-a.net c.args.place c.args.from v c.loop-a.a known c.requires.place c.requires.from to c.requires.way c.requires.draft
    (λ q in_q. omega (arith, below_limit net.names c.limit-limit.result c.limit-limit.ensures.above q in_q, c.loop-a-test.false)) c.loop-a.invariant
