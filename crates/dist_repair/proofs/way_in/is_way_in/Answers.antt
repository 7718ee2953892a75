use Rattle.std.proofs.Common.{◌≡◌, ◌∙◌, ◌<◌, ◌≤◌, List, ℕ, get_or, length, ap, sym, subst, arith, refl}
use Rattle.dist_net.specs.declared.Edge.{Edge}
use Rattle.dist_net.specs.Net.{Net}
use Rattle.dist_repair.specs.Rows.{IsTo}
use Rattle.dist_repair.proofs.Suspects.{edge_read}
use Rattle.dist_repair.proofs.Ways.{IsSearchingIn-more, IsSearchingIn-skip, IsWayIn-searched}
use Rattle.dist_repair.proofs.way_in.is_way_in.Goals as goal
use Rattle.dist_repair.proofs.way_in.is_way_in.Goals.{then-i-place+else-edge-to+then-edge-to-2+else-not-keeps_end, then-i-place+else-edge-to+else-edge-to-2, else-i-place}

-- the edge as the code reads it
read : (net : Net) (i : ℕ) (seen : List Edge) (e : Edge) → i < length net.edges → e ≡ get_or seen i e → seen ≡ net.edges → (d : Edge) → e ≡ get_or net.edges i d
read net i seen e below is same = edge_read net.edges i e below (is ∙ ap (λ (t : List Edge). get_or t i e) same)

pub loop-i-preserved : goal.loop-i-preserved
loop-i-preserved c =
    let net : Net = c.args.net.now.present in
    let seen : List Edge = c.edges-edges.result.now in
    let v : ℕ = (get_or seen c.args.place c.index-edges-place.result).to in
    let same : seen ≡ net.edges = c.edges-edges.ensures.list in
    let below : c.loop-i.i < length net.edges = subst (λ (t : List Edge). c.loop-i.i < length t) same c.loop-i-test.true in
    elim c.if-i-place.branch [
      | then-i-place+else-edge-to+then-edge-to-2+else-not-keeps_end w ↦ IsSearchingIn-more net c.args.place c.args.from v c.loop-i.i w.index-edges-i.result c.loop-i.invariant
          (read net c.loop-i.i seen w.index-edges-i.result below w.index-edges-i.is same) w.if-edge-to.false (λ from. w.if-not-keeps_end.ensures refl)
      | then-i-place+else-edge-to+else-edge-to-2 w ↦ IsSearchingIn-more net c.args.place c.args.from v c.loop-i.i w.index-edges-i.result c.loop-i.invariant
          (read net c.loop-i.i seen w.index-edges-i.result below w.index-edges-i.is same) w.if-edge-to.false (λ from. absurd (w.if-edge-to-2.false from))
      | else-i-place w ↦ IsSearchingIn-skip net c.args.place c.args.from v c.loop-i.i c.loop-i.invariant w.if-i-place.false
    ]

pub returns : goal.returns
returns c answer =
    let net : Net = c.args.net.now.present in
    let seen : List Edge = c.edges-edges.result.now in
    let e : Edge = c.index-edges-place.result in
    let same : seen ≡ net.edges = c.edges-edges.ensures.list in
    let to : IsTo net c.args.place e.to = λ d. ap (λ (g : Edge). g.to) (sym (read net c.args.place seen e c.requires.place c.index-edges-place.is same d)) in
    let ends : (get_or seen c.args.place e).to ≡ e.to = ap (λ (g : Edge). g.to) (sym c.index-edges-place.is) in
    IsWayIn-searched net c.args.place c.args.from (get_or seen c.args.place e).to c.loop-i.i (λ d. to d ∙ sym ends) c.if-from-to.false
    (subst (λ (t : List Edge). length t ≤ c.loop-i.i) same (omega (arith, c.loop-i-test.false))) c.loop-i.invariant c.requires.place
