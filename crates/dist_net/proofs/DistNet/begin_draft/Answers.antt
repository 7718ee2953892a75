use Rattle.std.proofs.Common.{◌≡◌, ◌∙◌, [], ◌++◌, List, length, take, drop, ap, sym, subst}
use Rattle.tmm_model.specs.declared.bound.Bound.{Bound}
use Rattle.dist_net.specs.Table.{Kept, AreTied}
use Rattle.dist_net.specs.Changes.{Listed}
use Rattle.dist_net.proofs.Adding.{refilled}
use Rattle.dist_net.proofs.Tied.{AreTied-begun}
use Rattle.dist_net.proofs.DistNet.begin_draft.Goals as goal

pub invariant_of-self : goal.invariant_of-self
invariant_of-self c =
    let inside = c.self.inside in
    let new : List Bound = c.copy_table.new.draft in
    let filled : take inside.draft.len (new ++ drop (length new) inside.draft.items) ≡ new =
    refilled inside.draft.items new inside.draft.len inside.draft.ok.0 (c.copy_table.ensures.places ∙ sym c.self.invariant.0) in
    let cleared : ◌≡◌ {A = Listed} c.clear_draft.new.self (record { places = inside.changes.value.places; drafted = []; moved = inside.changes.value.moved }) =
    c.clear_draft.ensures ∙ ap (λ (t : Listed). record { places = t.places; drafted = []; moved = t.moved }) c.deref_mut-2.ensures.value in
    let tied : AreTied inside.committed.value inside.present.value new c.clear_draft.new.self inside.kept =
    subst (λ (t : Listed). AreTied inside.committed.value inside.present.value new t inside.kept) (sym cleared)
    (AreTied-begun inside.committed.value inside.present.value inside.draft.items new inside.changes.value inside.kept c.self.invariant.1 (c.copy_table.ensures.copied ∙ ap (λ (s : Kept). s.table) c.deref.ensures)) in
    (ap length filled ∙ c.copy_table.ensures.places, subst (λ (t : List Bound). AreTied inside.committed.value inside.present.value t c.clear_draft.new.self inside.kept) (sym filled) tied, c.self.invariant.2, c.self.invariant.3, c.self.invariant.4)
