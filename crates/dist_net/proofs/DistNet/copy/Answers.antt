use Rattle.std.proofs.Common.{◌≡◌, ◌∙◌, ℕ, List, sym, subst}
use Rattle.tmm_model.specs.declared.bound.Bound.{Bound}
use Rattle.walk_theory.specs.LeastWalks.{IsFar}
use Rattle.dist_net.specs.Net.{Nets, arcs_of, entry, IsInUse}
use Rattle.dist_net.specs.Table.{Kept}
use Rattle.dist_net.proofs.DistNet.copy.Goals as goal

-- the table has the distances of the state
abbrev HoldsFar : List Bound → Kept → Type 0
HoldsFar table state = (a b : ℕ) → IsInUse state.names a → IsInUse state.names b → IsFar (arcs_of state.edges) a b (entry table a b)

pub returns-clause-draft : goal.returns-clause-draft
returns-clause-draft c a b used_a used_b =
    let state : Kept = c.self.inside.present.value in
    let copied : c.in_ok-from_slice.field-0.items ≡ c.deref-3.result.now.table = c.in_ok-from_slice.ensures.items ∙ c.table.ensures.table in
    let far : HoldsFar c.in_ok-from_slice.field-0.items state = subst (HoldsFar c.in_ok-from_slice.field-0.items) c.deref-3.ensures (subst (λ (t : List Bound). HoldsFar t c.deref-3.result.now) (sym copied) c.table.ensures.far) in
    subst (λ (n : Nets). (p q : ℕ) → IsInUse n.present.names p → IsInUse n.present.names q → IsFar (arcs_of n.present.edges) p q (entry c.in_ok-from_slice.field-0.items p q)) c.self.view_is far a b used_a used_b
