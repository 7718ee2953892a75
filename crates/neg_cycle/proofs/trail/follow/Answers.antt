use Rattle.std.proofs.Common.{◌≡◌, ◌∙◌, ◌<◌, ℕ, List, length, [], ◌∷◌, ◌++◌, get_or, ap, sym, subst, arith}
use Rattle.tmm_model.specs.declared.walk.WalkStep.{WalkStep}
use Rattle.dist_net.specs.declared.Edge.{Edge}
use Rattle.neg_cycle.specs.Ranks.{IsNext}
use Rattle.neg_cycle.proofs.Linked.{same_at}
use Rattle.neg_cycle.proofs.Ranked.{edge_on, in_places}
use Rattle.neg_cycle.proofs.Named.{IsWalking-start, IsWalking-more, AppendsPath-end}
use Rattle.neg_cycle.proofs.trail.follow.Goals as goal

pub loop-at-init : goal.loop-at-init
loop-at-init c = IsWalking-start c.args.net.now.present c.args.a c.args.b c.args.ways.now.rank.items c.args.steps.now.items c.requires.reached c.requires.ranked

pub next_edge-requires : goal.next_edge-requires
next_edge-requires c =
    let in_at : c.loop-at.at < 256 = in_places c.args.ways.now.rank.items c.loop-at.at c.requires.ways.leading.ranks c.loop-at.invariant.following.ranked in
    omega (arith, in_at, c.requires.ways.leading.firsts)

pub bounds-edges-next_edge : goal.bounds-edges-next_edge
bounds-edges-next_edge c =
    let next = edge_on c.args.net.now.present.edges c.args.b c.args.ways.now c.loop-at.at c.requires.ways c.loop-at.invariant.following.ranked c.loop-at-test.true in
    omega (arith, next.1.0, c.next_edge.ensures, ap length c.edges-edges.ensures.list)

pub loop-at-preserved : goal.loop-at-preserved
loop-at-preserved c =
    let edges : List Edge = c.args.net.now.present.edges in
    let e : Edge = c.index-edges-next_edge.result in
    let next = edge_on edges c.args.b c.args.ways.now c.loop-at.at c.requires.ways c.loop-at.invariant.following.ranked c.loop-at-test.true in
    let at : e ≡ get_or edges (get_or c.args.ways.now.first.items c.loop-at.at 0) e =
    c.index-edges-next_edge.is ∙ (ap (λ (t : List Edge). get_or t c.next_edge.result e) c.edges-edges.ensures.list ∙ ap (λ (k : ℕ). get_or edges k e) c.next_edge.ensures) in
    IsWalking-more c.args.net.now.present c.args.a c.args.b c.args.ways.now.rank.items c.loop-at.at c.args.steps.now.items c.loop-at.steps.items c.extend.new.self.items e c.loop-at.invariant
    (subst (IsNext edges c.args.b c.args.ways.now.rank.items c.loop-at.at) (same_at edges (get_or c.args.ways.now.first.items c.loop-at.at 0) next.0 e next.1 (next.1.0, sym at)) next.2)
    (c.in_ok-extend.ensures.ok ∙ ap (λ (x : WalkStep). c.loop-at.steps.items ++ x ∷ []) c.step_of.ensures)

pub returns : goal.returns
returns c =
    AppendsPath-end c.args.net.now.present c.args.a c.args.b c.args.ways.now.rank.items c.loop-at.at c.args.steps.now.items c.loop-at.steps.items c.edges-edges.ensures.dates c.loop-at-test.false c.loop-at.invariant
