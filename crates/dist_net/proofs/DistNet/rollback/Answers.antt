use Rattle.std.proofs.Common.{◌≡◌, ◌∙◌, [], ℕ, List, length, ap, sym, subst, refl, arith}
use Rattle.dist_net.specs.Table.{Kept, AreTied}
use Rattle.dist_net.specs.Changes.{Listed, AreMarked}
use Rattle.dist_net.proofs.Tied.{AreTied-same, AreTied-read, drafted_back}
use Rattle.dist_net.proofs.DistNet.rollback.Goals as goal

pub invariant_of-self : goal.invariant_of-self
invariant_of-self c =
    let inside = c.self.inside in
    let changes : Listed = c.deref_mut-2.result.now in
    let next : List ℕ = c.draft_places.new.self.drafted in
    let same : ◌≡◌ {A = Kept} c.copy_from.new.self inside.committed.value = c.copy_from.ensures ∙ c.deref.ensures in
    let tied : AreTied inside.committed.value inside.present.value inside.draft.items changes inside.kept =
    AreTied-read inside.committed.value inside.present.value inside.draft.items inside.changes.value inside.kept inside.committed.value inside.present.value changes c.self.invariant.1
    refl refl c.deref_mut-2.ensures.value in
    let back : AreMarked next inside.draft.items c.copy_from.new.self.table =
    subst (λ (s : Kept). AreMarked next inside.draft.items s.table) (sym same)
    (drafted_back inside.committed.value inside.present.value inside.draft.items changes inside.kept next tied c.draft_places.ensures.more c.draft_places.ensures.places) in
    let cleared : ◌≡◌ {A = Listed} c.clear.new.self (record { places = []; drafted = next; moved = [] }) =
    c.clear.ensures ∙ ap (λ (t : Listed). record { places = []; drafted = t.drafted; moved = [] }) c.deref_mut-3.ensures.value in (
      c.self.invariant.0,
      subst (λ (t : Listed). AreTied inside.committed.value c.copy_from.new.self inside.draft.items t (length c.edges.result.now)) (sym cleared)
          (AreTied-same inside.committed.value c.copy_from.new.self inside.draft.items next (length c.edges.result.now) (sym same) back
          (omega (arith, ap length c.edges.ensures.list, ap (λ (s : Kept). length s.edges) c.deref-3.ensures))),
      c.self.invariant.2,
      c.self.invariant.3,
      λ _. ap (λ (s : Kept). s.names) same,
    )
