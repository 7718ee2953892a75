use Rattle.std.proofs.Common.{◌≡◌, ℕ, subst}
use Rattle.std.specs.Prelude.{IfOk}
use Rattle.std.specs.List.{Contains}
use Rattle.undo_lists.specs.Changes as lists
use Rattle.occ_tree.specs.Standing.{Kept}
use Rattle.occ_tree.proofs.tree.Tree.changed_lists.Goals as goal

pub returns : goal.returns
returns c =
    subst (λ (k : Kept). IfOk c.changed.result (λ numbers. (n : ℕ) → (Contains numbers.items n → ⊥) → lists.present k.tokens n ≡ lists.committed k.tokens n)) c.self.view_is c.changed.ensures.others
