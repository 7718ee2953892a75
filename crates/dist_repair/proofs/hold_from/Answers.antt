use Rattle.std.proofs.Common.{◌≡◌, ◌∙◌, inl, inr, List, get_or, ap, sym, subst, refl, rules, ℤ, ◌+ℤ◌, w64}
use Rattle.std.specs.Int.RustNames.{FitsSigned}
use Rattle.std.proofs.lemmas.Int.{to_z-of_z}
use Rattle.tmm_model.specs.declared.bound.Bound.TheVariants.{Finite}
use Rattle.walk_theory.specs.LeastWalks.{IsFar}
use Rattle.dist_net.specs.declared.Edge.{Edge}
use Rattle.dist_net.specs.Net.{Net, IsInUse, arcs_of}
use Rattle.dist_net.proofs.Ends.{ends_in_use}
use Rattle.dist_repair.specs.Rows.{IsHeld, IsWayOn}
use Rattle.dist_repair.proofs.Left.{IsNet}
use Rattle.dist_repair.proofs.Keeping.{KeepsRow-before, All-added}
use Rattle.dist_repair.proofs.Suspects.{edge_read}
use Rattle.dist_repair.proofs.hold_from.Goals as goal

pub returns-then-is_way_on : goal.returns-then-is_way_on
returns-then-is_way_on c =
    let net : Net = c.args.net.now.present in
    let known : IsNet net = record { places = c.invariants.ensures.names; used = c.invariants.ensures.in_use; light = c.invariants.ensures.light; dates = c.invariants.ensures.dates } in
    let e : Edge = c.index-edges-j.result in
    let at : e ≡ get_or net.edges c.args.j e = c.index-edges-j.is ∙ ap (λ (t : List Edge). get_or t c.args.j e) c.edges.ensures.list in
    let begins : (d : Edge) → (get_or net.edges c.args.j d).from ≡ e.from = λ d. ap (λ (g : Edge). g.from) (sym (edge_read net.edges c.args.j e c.requires.j at d)) in
    let in_from : IsInUse net.names e.from = (ends_in_use net.names net.edges e c.invariants.ensures.in_use (c.args.j, c.requires.j, sym at)).0 in
    let fits : FitsSigned w64 c.args.rest = search rules in
    let way : IsWayOn net c.args.j c.args.to c.args.rest =
    λ d. subst (λ (z : ℤ). IsFar (arcs_of net.edges) (get_or net.edges c.args.j d).from c.args.to (Finite (z +ℤ (get_or net.edges c.args.j d).weight))) (to_z-of_z w64 c.args.rest fits) (c.if-is_way_on.ensures refl d) in
    All-added (IsHeld net c.args.place) c.args.held.now c.add.new.self e.from c.requires.held (
      in_from,
      KeepsRow-before net c.args.place known c.requires.place c.args.j c.args.p e.from c.args.to c.args.rest c.requires.j c.if-j-place.false begins c.requires.leads c.requires.to c.requires.point.1 c.requires.far way,
    ) (λ q m. elim (c.add.ensures q m) [ inl there ↦ inl there | inr is ↦ inr (is ∙ ap (λ (g : Edge). g.from) (sym c.index-edges-j.is)) ])
