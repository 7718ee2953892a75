use Rattle.std.proofs.Common.{◌≡◌, ◌∙◌, ◌+◌, ◌≢◌, ◌<◌, List, ℕ, length, get_or, ap, sym, subst, arith, refl}
use Rattle.std.proofs.lemmas.List.{get_or_default}
use Rattle.std.proofs.lemmas.List.Elements.{Contains-get_or}
use Rattle.tmm_model.specs.declared.bound.Bound.{Bound}
use Rattle.tmm_model.specs.declared.bound.Bound.TheVariants.{Free}
use Rattle.tmm_model.specs.Bounds.{IfFinite, IsWithin}
use Rattle.tmm_model.specs.Walks.{Arc}
use Rattle.walk_theory.specs.LeastWalks.{IsFar}
use Rattle.walk_theory.proofs.Members.{Contains-map}
use Rattle.dist_net.specs.declared.Edge.{Edge}
use Rattle.dist_net.specs.Net.{Net, IsInUse, AreInUse, entry, arc_of, arcs_of}
use Rattle.dist_net.proofs.Ends.{ends_in_use, in_places}
use Rattle.dist_repair.specs.Rows.{row_of, IsPresentRow, IsSafe}
use Rattle.dist_repair.proofs.Suspects.{IsSafe-over}
use Rattle.dist_repair.proofs.Left.{IsNet}
use Rattle.dist_repair.proofs.Columns.{IsBounding, IsBounding-columns, of_equal, IsBounding-more, IsBounding-skip, IsStarted-bounded, StandsFrom, later}
use Rattle.dist_repair.proofs.bound_row.Goals as goal
use Rattle.dist_repair.proofs.bound_row.Goals.{then-is_reached, else-is_reached}

-- the edge's end as it is read
end_of : (net : Net) (place : ℕ) (read : List Edge) (r : Edge) → read ≡ net.edges → place < length net.edges → AreInUse net.names net.edges → IsInUse net.names (get_or read place r).to
end_of net place read r same lt used =
    subst (λ (t : List Edge). IsInUse net.names (get_or t place r).to) (sym same) (ends_in_use net.names net.edges (get_or net.edges place r) used (Contains-get_or net.edges place r lt)).1

-- a bound of a row as it is read
bound_of : (row : List Bound) (q : ℕ) (x : Bound) → length row ≡ 256 → q < 256 → x ≡ get_or row q x → x ≡ get_or row q Free
bound_of row q x places lt is = is ∙ get_or_default row q x Free (omega (arith, places, lt))

pub is_reached-requires-clause-first : goal.is_reached-requires-clause-first
is_reached-requires-clause-first c =
    let to : ℕ = (get_or c.edges.result.now c.args.place c.index-edges-place.result).to in
    let lt : to < 256 = in_places c.args.net.now.present.names c.invariants.ensures.names to (end_of c.args.net.now.present c.args.place c.edges.result.now c.index-edges-place.result c.edges.ensures.list c.requires.place c.edges.ensures.in_use) in
    subst (λ (x : Bound). IfFinite x (IsWithin 255000000000)) (sym (bound_of c.row-present.result.now to c.index-present-to.result c.row-present.ensures.places lt c.index-present-to.is)) (c.row-present.ensures.small to lt)

pub is_reached-requires-clause-rest : goal.is_reached-requires-clause-rest
is_reached-requires-clause-rest c =
    let b : ℕ = get_or c.args.columns.now c.loop-i.i 0 in
    let lt : b < 256 = in_places c.args.net.now.present.names c.invariants.ensures.names b (c.requires.first.used c.loop-i.i 0 c.loop-i-test.true) in
    subst (λ (x : Bound). IfFinite x (IsWithin 255000000000)) (sym (bound_of c.row-onward.result.now b c.index-onward-b.result c.row-onward.ensures.places lt c.index-onward-b.is)) (c.row-onward.ensures.small b lt)

pub set-requires : goal.set-requires
set-requires c = in_places c.args.net.now.present.names c.invariants.ensures.names (get_or c.args.columns.now c.loop-i.i 0) (c.requires.first.used c.loop-i.i 0 c.loop-i-test.true)

pub loop-i-init : goal.loop-i-init
loop-i-init c =
    let known : IsNet c.args.net.now.present = record { places = c.invariants.ensures.names; used = c.invariants.ensures.in_use; light = c.invariants.ensures.light; dates = c.invariants.ensures.dates } in
    subst (λ (l : List ℕ). IsBounding c.args.net.now.present c.args.place (StandsFrom c.args.columns.now 0) c.args.a 0 l (row_of c.copy_from.new.self)) (sym c.clear.ensures)
    (IsBounding-columns c.args.net.now.present c.args.place c.args.from c.args.columns.now c.args.a (entry c.args.net.now.draft c.args.from) (row_of c.copy_from.new.self) known c.requires.place c.requires.first
    (subst (λ (l : List Bound). IsPresentRow c.args.net.now.present c.args.a (row_of l)) (sym c.copy_from.ensures) c.row-present.ensures.least))

pub loop-i-preserved : goal.loop-i-preserved
loop-i-preserved c =
    let known : IsNet c.args.net.now.present = record { places = c.invariants.ensures.names; used = c.invariants.ensures.in_use; light = c.invariants.ensures.light; dates = c.invariants.ensures.dates } in
    let net : Net = c.args.net.now.present in
    let b : ℕ = get_or c.args.columns.now c.loop-i.i 0 in
    let at : b ≡ get_or c.args.columns.now c.loop-i.i b = get_or_default c.args.columns.now c.loop-i.i 0 b c.loop-i-test.true in
    let i : ℕ = c.loop-i.i in
    let now : ℕ → Bound = row_of c.loop-i.row in
    let waits : ℕ → Type 0 = StandsFrom c.args.columns.now i in
    let still : ℕ → Type 0 = StandsFrom c.args.columns.now (i + 1) in
    let step : (q : ℕ) → IsInUse net.names q → q ≢ b → waits q → still q = λ q in_q other. later c.args.columns.now i b q at other in
    let P : List ℕ → List Bound → Type 0 = λ l n. IsBounding net c.args.place still c.args.a (i + 1) l (row_of n) in
    let arcs : List (Arc ℕ) = arcs_of net.edges in
    let r : Edge = c.index-edges-place.result in
    let e : Edge = get_or net.edges c.args.place r in
    let to : ℕ = (get_or c.edges.result.now c.args.place r).to in
    let ends : to ≡ e.to = ap (λ (t : List Edge). (get_or t c.args.place r).to) c.edges.ensures.list in
    let in_to : IsInUse net.names to = end_of net c.args.place c.edges.result.now r c.edges.ensures.list c.requires.place c.edges.ensures.in_use in
    let in_b : IsInUse net.names b = c.requires.first.used i 0 c.loop-i-test.true in
    let far : IsFar arcs c.args.a b c.index-present-b.result =
    subst (IsFar arcs c.args.a b) (sym (bound_of c.row-present.result.now b c.index-present-b.result c.row-present.ensures.places (in_places net.names known.places b in_b) c.index-present-b.is)) (c.row-present.ensures.least b in_b) in
    let far_first : IsFar arcs c.args.a to c.index-present-to.result =
    subst (IsFar arcs c.args.a to) (sym (bound_of c.row-present.result.now to c.index-present-to.result c.row-present.ensures.places (in_places net.names known.places to in_to) c.index-present-to.is)) (c.row-present.ensures.least to in_to) in
    let far_rest : IsFar arcs to b c.index-onward-b.result =
    subst (IsFar arcs to b) (sym (bound_of c.row-onward.result.now b c.index-onward-b.result c.row-onward.ensures.places (in_places net.names known.places b in_b) c.index-onward-b.is)) (c.row-onward.ensures.least b in_b) in
    let far_end : IsFar arcs c.args.a e.to c.index-present-to.result = subst (λ (p : ℕ). IsFar arcs c.args.a p c.index-present-to.result) ends far_first in
    let far_on : IsFar arcs e.to b c.index-onward-b.result = subst (λ (p : ℕ). IsFar arcs p b c.index-onward-b.result) ends far_rest in
    elim c.if-is_reached.branch [
      | then-is_reached w ↦ of_equal P (ap (λ t. t.items) w.suspects-is ∙ w.push.ensures.items) w.row-is
          (IsBounding-more net c.args.place waits still c.loop-i.suspects.items c.args.a i b now known c.loop-i.invariant step (row_of w.set.new.self) w.way_over.result
          (c.requires.first.used c.loop-i.i 0 c.loop-i-test.true) w.way_over.ensures w.set.ensures.set w.set.ensures.others)
      | else-is_reached w ↦ of_equal P (ap (λ t. t.items) w.suspects-is) w.row-is
          (IsBounding-skip net c.args.place waits still c.loop-i.suspects.items c.args.a i b now known c.loop-i.invariant step c.requires.place
          (λ d.
          subst (λ (f : Edge). IsSafe arcs (arc_of f) c.args.a b) (get_or_default net.edges c.args.place r d c.requires.place)
          (IsSafe-over arcs (arc_of e) c.args.a b c.index-present-b.result c.index-present-to.result c.index-onward-b.result (Contains-map arc_of net.edges e (Contains-get_or net.edges c.args.place r c.requires.place))
          far far_end far_on (w.if-is_reached.ensures.other refl))))
    ]

pub returns-clause-started : goal.returns-clause-started
returns-clause-started c =
    IsStarted-bounded c.args.net.now.present c.args.place (StandsFrom c.args.columns.now c.loop-i.i) c.loop-i.suspects.items c.args.a c.loop-i.i (row_of c.loop-i.row) c.loop-i.invariant
    (λ q in_q waits. omega (arith, waits.1, waits.2, c.loop-i-test.false))
