use Rattle.std.proofs.Common.{◌≡◌, inl, inr, ◌<◌, ◌∙◌, List, get_or, length, ap, sym, subst, arith}
use Rattle.std.specs.List.{All}
use Rattle.dist_net.specs.declared.Edge.{Edge}
use Rattle.dist_net.specs.Net.{Net, IsInUse}
use Rattle.dist_net.proofs.Ends.{ends_in_use}
use Rattle.dist_repair.specs.Rows.{IsHeld, IsTo}
use Rattle.dist_repair.proofs.Left.{IsNet}
use Rattle.dist_repair.proofs.Keeping.{KeepsRow-end, All-added}
use Rattle.dist_repair.proofs.Suspects.{edge_read}
use Rattle.dist_repair.proofs.hold.Goals as goal

pub loop-i-init : goal.loop-i-init
loop-i-init c =
    let net : Net = c.args.net.now.present in
    let known : IsNet net = record { places = c.invariants.ensures.names; used = c.invariants.ensures.in_use; light = c.invariants.ensures.light; dates = c.invariants.ensures.dates } in
    let e : Edge = c.index-edges-place.result in
    let at : e ≡ get_or net.edges c.args.place e = c.index-edges-place.is ∙ ap (λ (t : List Edge). get_or t c.args.place e) c.edges.ensures.list in
    let to : IsTo net c.args.place e.to = λ d. ap (λ (g : Edge). g.to) (sym (edge_read net.edges c.args.place e c.requires.place at d)) in
    let in_to : IsInUse net.names e.to = (ends_in_use net.names net.edges e c.invariants.ensures.in_use (c.args.place, c.requires.place, sym at)).1 in
    All-added (IsHeld net c.args.place) c.none-held.result c.add.new.self e.to
    (subst (All (IsHeld net c.args.place)) (sym c.none-held.ensures) (λ k d below. absurd (omega (arith, below))))
    (in_to, KeepsRow-end net c.args.place known c.requires.place e.to to)
    (λ q m. elim (c.add.ensures q m) [ inl there ↦ inl there | inr is ↦ inr (is ∙ ap (λ (g : Edge). g.to) (sym c.index-edges-place.is)) ])

pub hold_before-requires-clause-point : goal.hold_before-requires-clause-point
hold_before-requires-clause-point c =
    let below : c.loop-i.i < length c.loop-i.held = omega (arith, c.if-i-len.false, c.len.ensures) in
    subst (IsHeld c.args.net.now.present c.args.place) (sym (c.at-p.ensures 0)) (c.loop-i.invariant c.loop-i.i 0 below)
