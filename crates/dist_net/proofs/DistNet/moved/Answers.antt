use Rattle.std.proofs.Common.{subst, refl}
use Rattle.dist_net.specs.Net.{Nets, IsMovedAt}
use Rattle.dist_net.specs.Table.{Kept, AreTied}
use Rattle.dist_net.proofs.Tied.{IsMovedAt-tied, AreTied-read}
use Rattle.dist_net.proofs.DistNet.moved.Goals as goal

pub returns-clause-moved : goal.returns-clause-moved
returns-clause-moved c =
    let inside = c.self.inside in
    let present : Kept = c.deref.result.now in
    let committed : Kept = c.deref-2.result.now in
    let tied : AreTied committed present inside.draft.items inside.changes.value inside.kept =
    AreTied-read inside.committed.value inside.present.value inside.draft.items inside.changes.value inside.kept committed present inside.changes.value c.self.invariant.1 c.deref-2.ensures c.deref.ensures refl in
    let moved : IsMovedAt inside.changes.value.moved (record { names = committed.names; edges = committed.edges }) (record { names = present.names; edges = present.edges }) =
    IsMovedAt-tied committed present inside.draft.items inside.changes.value inside.kept tied c.edges.ensures.names c.edges-2.ensures.exact c.edges.ensures.exact in
    subst (λ (n : Nets). IsMovedAt n.moved n.committed n.present) c.self.view_is
    (subst (λ (s : Kept). IsMovedAt inside.changes.value.moved (record { names = inside.committed.value.names; edges = inside.committed.value.edges }) (record { names = s.names; edges = s.edges })) c.deref.ensures
    (subst (λ (s : Kept). IsMovedAt inside.changes.value.moved (record { names = s.names; edges = s.edges }) (record { names = present.names; edges = present.edges })) c.deref-2.ensures moved))
