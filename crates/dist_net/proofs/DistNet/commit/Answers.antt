use Rattle.std.proofs.Common.{◌≡◌, ◌∙◌, [], length, ap, sym, subst, arith}
use Rattle.dist_net.specs.Table.{Kept, AreTied}
use Rattle.dist_net.specs.Changes.{Listed}
use Rattle.dist_net.proofs.Tied.{AreTied-same}
use Rattle.dist_net.proofs.DistNet.commit.Goals as goal

pub invariant_of-self : goal.invariant_of-self
invariant_of-self c =
    let inside = c.self.inside in
    let same : ◌≡◌ {A = Kept} c.copy_from.new.self inside.present.value = c.copy_from.ensures ∙ c.deref.ensures in
    let cleared : ◌≡◌ {A = Listed} c.clear.new.self (record { places = []; drafted = inside.changes.value.drafted; moved = [] }) =
    c.clear.ensures ∙ ap (λ (t : Listed). record { places = []; drafted = t.drafted; moved = [] }) c.deref_mut-2.ensures.value in (
      c.self.invariant.0,
      subst (λ (t : Listed). AreTied c.copy_from.new.self inside.present.value inside.draft.items t (length c.edges.result.now)) (sym cleared)
          (AreTied-same c.copy_from.new.self inside.present.value inside.draft.items inside.changes.value.drafted (length c.edges.result.now) same c.self.invariant.1.drafted
          (omega (arith, ap length c.edges.ensures.list, ap (λ (s : Kept). length s.edges) c.deref-3.ensures))),
      c.self.invariant.2,
      c.self.invariant.3,
      λ _. sym (ap (λ (s : Kept). s.names) same),
    )
