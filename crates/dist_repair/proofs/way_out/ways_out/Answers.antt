use Rattle.std.proofs.Common.{◌≡◌, ◌∙◌, ◌+◌, ◌<◌, List, ℕ, get_or, length, ap, sym, subst}
use Rattle.dist_net.specs.declared.Edge.{Edge}
use Rattle.dist_net.specs.Net.{Net}
use Rattle.dist_repair.proofs.Suspects.{edge_read}
use Rattle.dist_repair.proofs.Ways.{AreWaysTo, AreWaysTo-more, AreWaysTo-skip}
use Rattle.dist_repair.proofs.way_out.ways_out.Goals as goal
use Rattle.dist_repair.proofs.way_out.ways_out.Goals.{then-edge-from-2+then-i-place+else-is_full, then-edge-from-2+else-i-place, else-edge-from-2}

pub loop-i-preserved : goal.loop-i-preserved
loop-i-preserved c =
    let net : Net = c.args.net.now.present in
    let e : Edge = c.index-edges-i.result in
    let at : e ≡ get_or net.edges c.loop-i.i e = c.index-edges-i.is ∙ ap (λ (t : List Edge). get_or t c.loop-i.i e) c.edges-edges.ensures.list in
    let below : c.loop-i.i < length net.edges = subst (λ (t : List Edge). c.loop-i.i < length t) c.edges-edges.ensures.list c.loop-i-test.true in
    let is : (d : Edge) → e ≡ get_or net.edges c.loop-i.i d = edge_read net.edges c.loop-i.i e below at in
    let P : List ℕ → Type 0 = AreWaysTo net c.args.place c.args.from (c.loop-i.i + 1) in
    elim c.if-edge-from-2.branch [
      | then-edge-from-2+then-i-place+else-is_full w ↦ subst P (sym (ap (λ t. t.items) w.list-is ∙ w.push.ensures.items))
          (AreWaysTo-more net c.args.place c.args.from c.loop-i.i c.loop-i.list.items e c.loop-i.invariant below is c.if-edge-from.false w.if-edge-from-2.true w.if-i-place.true)
      | then-edge-from-2+else-i-place w ↦ subst P (sym (ap (λ t. t.items) w.list-is))
          (AreWaysTo-skip net c.args.place c.args.from c.loop-i.i c.loop-i.list.items e c.loop-i.invariant is c.if-edge-from.false (λ from other. other w.if-i-place.false))
      | else-edge-from-2 w ↦ subst P (sym (ap (λ t. t.items) w.list-is))
          (AreWaysTo-skip net c.args.place c.args.from c.loop-i.i c.loop-i.list.items e c.loop-i.invariant is c.if-edge-from.false (λ from other. w.if-edge-from-2.false from))
    ]
