use Rattle.std.proofs.Common.{◌≡◌, ◌∙◌, ◌<◌, ℕ, length, get_or, sym, subst, arith}
use Rattle.std.proofs.lemmas.List.{get_or_default}
use Rattle.dist_net.proofs.Ends as ends
use Rattle.neg_cycle.specs.Ranks.{IsVisited}
use Rattle.neg_cycle.proofs.Ranked.{in_places}
use Rattle.neg_cycle.proofs.Followed.{IsThrough-more, all_ranked}
use Rattle.neg_cycle.proofs.ranks.Ways.go_back.Goals as goal

pub loop-done-init : goal.loop-done-init
loop-done-init c = record { ways = c.requires.ways; through = λ k below. absurd (omega (arith, below)) }

pub index-rank-requires : goal.index-rank-requires
index-rank-requires c =
    let in_a : c.args.a < 256 = ends.in_places c.args.net.now.present.names c.invariants.ensures.names c.args.a c.requires.from in
    omega (arith, in_a, c.loop-done.self.rank.ok.0, c.loop-done.invariant.ways.leading.ranks)

pub index-requires : goal.index-requires
index-requires c =
    let lt : c.loop-done.done < length c.loop-done.self.ranked.items = omega (arith, c.loop-done-test.true, c.len.ensures, c.loop-done.self.ranked.ok.0) in
    let at : c.index-p.result.now ≡ get_or c.loop-done.self.ranked.items c.loop-done.done 0 = c.index-p.ensures ∙ get_or_default c.loop-done.self.ranked.items c.loop-done.done c.index-p.result.now 0 lt in
    let in_p = in_places c.loop-done.self.rank.items (get_or c.loop-done.self.ranked.items c.loop-done.done 0) c.loop-done.invariant.ways.leading.ranks (c.loop-done.invariant.ways.listed.some c.loop-done.done lt) in
    omega (arith, at, in_p, c.loop-done.self.rank.ok.0, c.loop-done.invariant.ways.leading.ranks)

pub returns-then-rank-index-clause-reached : goal.returns-then-rank-index-clause-reached
returns-then-rank-index-clause-reached c =
    let in_a : c.args.a < 256 = ends.in_places c.args.net.now.present.names c.invariants.ensures.names c.args.a c.requires.from in
    let has : c.index-rank.result.now ≡ get_or c.loop-done.self.rank.items c.args.a 0 = c.index-rank.ensures ∙ get_or_default c.loop-done.self.rank.items c.args.a c.index-rank.result.now 0 (omega (arith, in_a, c.loop-done.invariant.ways.leading.ranks)) in
    omega (arith, has, c.if-rank-ne0.true)

pub visit_all-requires-clause-ranked : goal.visit_all-requires-clause-ranked
visit_all-requires-clause-ranked c =
    let lt : c.loop-done.done < length c.loop-done.self.ranked.items = omega (arith, c.loop-done-test.true, c.len.ensures, c.loop-done.self.ranked.ok.0) in
    let at : c.index-p.result.now ≡ get_or c.loop-done.self.ranked.items c.loop-done.done 0 = c.index-p.ensures ∙ get_or_default c.loop-done.self.ranked.items c.loop-done.done c.index-p.result.now 0 lt in
    subst (λ (p : ℕ). 0 < get_or c.loop-done.self.rank.items p 0) (sym at) (c.loop-done.invariant.ways.listed.some c.loop-done.done lt)

pub loop-done-preserved : goal.loop-done-preserved
loop-done-preserved c =
    let lt : c.loop-done.done < length c.loop-done.self.ranked.items = omega (arith, c.loop-done-test.true, c.len.ensures, c.loop-done.self.ranked.ok.0) in
    let at : c.index-p.result.now ≡ get_or c.loop-done.self.ranked.items c.loop-done.done 0 = c.index-p.ensures ∙ get_or_default c.loop-done.self.ranked.items c.loop-done.done c.index-p.result.now 0 lt in
    let edges = c.args.net.now.present.edges in
    record {
      ways = c.visit_all.ensures.ways;
      through = IsThrough-more edges c.args.b c.loop-done.done c.loop-done.self c.visit_all.new.self lt c.loop-done.invariant.through c.visit_all.ensures.further
          (subst (IsVisited edges c.args.b c.visit_all.new.self.rank.items) at c.visit_all.ensures.visited);
    }

pub returns-clause-reached : goal.returns-clause-reached
returns-clause-reached c =
    all_ranked c.args.net.now.present.edges c.args.a c.args.b c.loop-done.done c.loop-done.self c.loop-done.invariant.ways c.loop-done.invariant.through
    (omega (arith, c.loop-done-test.false, c.len.ensures, c.loop-done.self.ranked.ok.0)) c.requires.reached
