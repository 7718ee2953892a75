use Rattle.std.proofs.Common.{◌≡◌, ◌∙◌, ◌+◌, ◌<◌, ℕ, length, get_or, set, length-set, ap, sym, subst, arith, refl}
use Rattle.std.proofs.lemmas.Bool.{leb-false}
use Rattle.std.proofs.lemmas.List.{get_or-set_same, get_or-set_other, get_or_default}
use Rattle.dist_net.specs.declared.Edge.{Edge}
use Rattle.neg_cycle.specs.Ranks.{IsTight, AreListed}
use Rattle.neg_cycle.proofs.Linked.{IsEdgeTo, same_at, edge_read}
use Rattle.neg_cycle.proofs.Ranked.{IsRanked-set, AreKept-set, AreListed-push, in_places, room}
use Rattle.neg_cycle.proofs.ranks.Ways.visit.Goals as goal
use Rattle.neg_cycle.proofs.ranks.Ways.visit.Goals.{else-rank-ne0-via-then-rank-ne0+else-index-place, then-rank-next, else-rank-next, else-rank-ne0-via-else-rank-ne0}

pub index-rank-requires : goal.index-rank-requires
index-rank-requires c =
    let edges = c.args.net.now.present.edges in
    let e = c.index-edges-place.result in
    let read : IsEdgeTo edges c.args.place c.args.p e = edge_read c.args.net.now.present.names edges c.edges.result.now c.args.place c.args.p e c.edges.ensures.names c.edges.ensures.in_use c.edges.ensures.list c.index-edges-place.is c.requires.edge in
    omega (arith, read.from, c.args.self.now.rank.ok.0, c.requires.ways.leading.ranks)

pub index-requires : goal.index-requires
index-requires c =
    let edges = c.args.net.now.present.edges in
    let e = c.index-edges-place.result in
    let read : IsEdgeTo edges c.args.place c.args.p e = edge_read c.args.net.now.present.names edges c.edges.result.now c.args.place c.args.p e c.edges.ensures.names c.edges.ensures.in_use c.edges.ensures.list c.index-edges-place.is c.requires.edge in
    omega (arith, read.from, c.args.self.now.first.ok.0, c.requires.ways.leading.firsts)

pub returns-then-index-place-clause-visited : goal.returns-then-index-place-clause-visited
returns-then-index-place-clause-visited c f at tight =
    let edges = c.args.net.now.present.edges in
    let e = c.index-edges-place.result in
    let read : IsEdgeTo edges c.args.place c.args.p e = edge_read c.args.net.now.present.names edges c.edges.result.now c.args.place c.args.p e c.edges.ensures.names c.edges.ensures.in_use c.edges.ensures.list c.index-edges-place.is c.requires.edge in
    let rank = c.args.self.now.rank.items in
    let has : c.index-rank.result.now ≡ get_or rank e.from 0 = c.index-rank.ensures ∙ get_or_default rank e.from c.index-rank.result.now 0 (omega (arith, read.from, c.requires.ways.leading.ranks)) in
    subst (λ (g : Edge). 0 < get_or rank g.from 0) (same_at edges c.args.place e f read.at at) (omega (arith, has, c.if-rank-ne0.true))

pub returns-then-not-is_tight-clause-visited : goal.returns-then-not-is_tight-clause-visited
returns-then-not-is_tight-clause-visited c f at tight = absurd (c.is_tight.ensures.loose c.if-not-is_tight.true f (subst (IsTight c.args.net.now.present.edges c.args.b) (sym at.1) tight))

pub index_mut-requires : goal.index_mut-requires
index_mut-requires c =
    let edges = c.args.net.now.present.edges in
    let e = c.index-edges-place.result in
    let read : IsEdgeTo edges c.args.place c.args.p e = edge_read c.args.net.now.present.names edges c.edges.result.now c.args.place c.args.p e c.edges.ensures.names c.edges.ensures.in_use c.edges.ensures.list c.index-edges-place.is c.requires.edge in
    omega (arith, read.from, c.args.self.now.first.ok.0, c.requires.ways.leading.firsts)

pub index_mut-requires-then-rank-eq0 : goal.index_mut-requires-then-rank-eq0
index_mut-requires-then-rank-eq0 c =
    let edges = c.args.net.now.present.edges in
    let e = c.index-edges-place.result in
    let read : IsEdgeTo edges c.args.place c.args.p e = edge_read c.args.net.now.present.names edges c.edges.result.now c.args.place c.args.p e c.edges.ensures.names c.edges.ensures.in_use c.edges.ensures.list c.index-edges-place.is c.requires.edge in
    omega (arith, read.from, c.args.self.now.rank.ok.0, c.requires.ways.leading.ranks)

pub push_reserved-requires : goal.push_reserved-requires
push_reserved-requires c =
    let edges = c.args.net.now.present.edges in
    let e = c.index-edges-place.result in
    let read : IsEdgeTo edges c.args.place c.args.p e = edge_read c.args.net.now.present.names edges c.edges.result.now c.args.place c.args.p e c.edges.ensures.names c.edges.ensures.in_use c.edges.ensures.list c.index-edges-place.is c.requires.edge in
    let rank = c.args.self.now.rank.items in
    let none : get_or rank e.from 0 ≡ 0 = get_or_default rank e.from 0 c.index-rank.result.now (omega (arith, read.from, c.requires.ways.leading.ranks)) ∙ (sym c.index-rank.ensures ∙ c.if-rank-eq0.true) in
    let left : length c.args.self.now.ranked.items < 256 = room rank c.args.self.now.ranked.items e.from c.requires.ways.listed c.requires.ways.leading.ranks read.from none in
    omega (arith, left, c.args.self.now.ranked.ok.0, c.requires.ways.room)

pub returns-then-rank-eq0-clause-ways : goal.returns-then-rank-eq0-clause-ways
returns-then-rank-eq0-clause-ways c =
    let edges = c.args.net.now.present.edges in
    let e = c.index-edges-place.result in
    let read : IsEdgeTo edges c.args.place c.args.p e = edge_read c.args.net.now.present.names edges c.edges.result.now c.args.place c.args.p e c.edges.ensures.names c.edges.ensures.in_use c.edges.ensures.list c.index-edges-place.is c.requires.edge in
    let rank = c.args.self.now.rank.items in
    let none : get_or rank e.from 0 ≡ 0 = get_or_default rank e.from 0 c.index-rank.result.now (omega (arith, read.from, c.requires.ways.leading.ranks)) ∙ (sym c.index-rank.ensures ∙ c.if-rank-eq0.true) in
    let b = c.args.b in
    let tight : IsTight edges b e = subst (IsTight edges b) read.at.1 (c.is_tight.ensures.tight c.if-not-is_tight.false e) in
    let in_p : c.args.p < 256 = in_places rank c.args.p c.requires.ways.leading.ranks c.requires.ranked in
    let next : c.index-next.result.now ≡ get_or rank c.args.p 0 = c.index-next.ensures ∙ get_or_default rank c.args.p c.index-next.result.now 0 (omega (arith, in_p, c.requires.ways.leading.ranks)) in
    let to : get_or rank e.to 0 ≡ get_or rank c.args.p 0 = ap (λ (q : ℕ). get_or rank q 0) read.to in
    let n = c.index-next.result.now + 1 in
    let here : get_or (set rank e.from n) e.from 0 ≡ n = get_or-set_same rank e.from n 0 (omega (arith, read.from, c.requires.ways.leading.ranks)) in
    record {
      leading = IsRanked-set edges b c.args.place rank (set rank e.from n) c.args.self.now.first.items e c.requires.ways.leading read.at tight read.from (length-set rank e.from n ∙ c.requires.ways.leading.ranks) (AreKept-set rank e.from n none)
          (λ q other. get_or-set_other rank e.from q n 0 other) (omega (arith, to, c.requires.ranked)) (omega (arith, to, next, here));
      listed = subst (AreListed (set rank e.from n)) (sym c.push_reserved.ensures.items) (AreListed-push rank c.args.self.now.ranked.items e.from n c.requires.ways.listed c.requires.ways.leading.ranks read.from none (omega arith) (omega (arith, next, c.requires.ways.listed.low c.args.p)));
      room = c.push_reserved.ensures.capacity ∙ c.requires.ways.room;
    }

pub returns-then-rank-eq0-clause-visited : goal.returns-then-rank-eq0-clause-visited
returns-then-rank-eq0-clause-visited c f at tight =
    let edges = c.args.net.now.present.edges in
    let e = c.index-edges-place.result in
    let read : IsEdgeTo edges c.args.place c.args.p e = edge_read c.args.net.now.present.names edges c.edges.result.now c.args.place c.args.p e c.edges.ensures.names c.edges.ensures.in_use c.edges.ensures.list c.index-edges-place.is c.requires.edge in
    let rank = c.args.self.now.rank.items in
    let n = c.index-next.result.now + 1 in
    let here : get_or (set rank e.from n) e.from 0 ≡ n = get_or-set_same rank e.from n 0 (omega (arith, read.from, c.requires.ways.leading.ranks)) in
    subst (λ (g : Edge). 0 < get_or (set rank e.from n) g.from 0) (same_at edges c.args.place e f read.at at) (omega (arith, here))

pub returns-else-rank-eq0-clause-ways : goal.returns-else-rank-eq0-clause-ways
returns-else-rank-eq0-clause-ways c =
    let edges = c.args.net.now.present.edges in
    let e = c.index-edges-place.result in
    let read : IsEdgeTo edges c.args.place c.args.p e = edge_read c.args.net.now.present.names edges c.edges.result.now c.args.place c.args.p e c.edges.ensures.names c.edges.ensures.in_use c.edges.ensures.list c.index-edges-place.is c.requires.edge in
    let rank = c.args.self.now.rank.items in
    let b = c.args.b in
    let tight : IsTight edges b e = subst (IsTight edges b) read.at.1 (c.is_tight.ensures.tight c.if-not-is_tight.false e) in
    let in_p : c.args.p < 256 = in_places rank c.args.p c.requires.ways.leading.ranks c.requires.ranked in
    let next : c.index-next.result.now ≡ get_or rank c.args.p 0 = c.index-next.ensures ∙ get_or_default rank c.args.p c.index-next.result.now 0 (omega (arith, in_p, c.requires.ways.leading.ranks)) in
    let to : get_or rank e.to 0 ≡ get_or rank c.args.p 0 = ap (λ (q : ℕ). get_or rank q 0) read.to in
    let has : c.index-rank.result.now ≡ get_or rank e.from 0 = c.index-rank.ensures ∙ get_or_default rank e.from c.index-rank.result.now 0 (omega (arith, read.from, c.requires.ways.leading.ranks)) in
    let lower : c.index-next.result.now < c.index-rank.result.now = elim c.else-rank-ne0.branch [
      | else-rank-ne0-via-then-rank-ne0+else-index-place w ↦
          elim w.if-rank-next.branch [ then-rank-next v ↦ leb-false c.index-rank.result.now c.index-next.result.now (sym v.value-is ∙ w.if-index-place.false) | else-rank-next v ↦ omega (arith, v.if-rank-next.false) ]
      | else-rank-ne0-via-else-rank-ne0 w ↦ absurd (c.if-rank-eq0.false w.if-rank-ne0.false)
    ] in
    record {
      leading = IsRanked-set edges b c.args.place rank rank c.args.self.now.first.items e c.requires.ways.leading read.at tight read.from c.requires.ways.leading.ranks (λ q some. refl) (λ q other. refl) (omega (arith, to, c.requires.ranked)) (omega (arith, to, next, has, lower));
      listed = c.requires.ways.listed;
      room = c.requires.ways.room;
    }

pub returns-else-rank-eq0-clause-visited : goal.returns-else-rank-eq0-clause-visited
returns-else-rank-eq0-clause-visited c f at tight =
    let edges = c.args.net.now.present.edges in
    let e = c.index-edges-place.result in
    let read : IsEdgeTo edges c.args.place c.args.p e = edge_read c.args.net.now.present.names edges c.edges.result.now c.args.place c.args.p e c.edges.ensures.names c.edges.ensures.in_use c.edges.ensures.list c.index-edges-place.is c.requires.edge in
    let rank = c.args.self.now.rank.items in
    let has : c.index-rank.result.now ≡ get_or rank e.from 0 = c.index-rank.ensures ∙ get_or_default rank e.from c.index-rank.result.now 0 (omega (arith, read.from, c.requires.ways.leading.ranks)) in
    subst (λ (g : Edge). 0 < get_or rank g.from 0) (same_at edges c.args.place e f read.at at) (omega (arith, has, c.if-rank-eq0.false))
