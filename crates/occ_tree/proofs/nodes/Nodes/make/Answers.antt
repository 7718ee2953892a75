use Rattle.undo_rows.specs.Changes.{present}
use Rattle.std.proofs.Common.{sym, subst}
use Rattle.occ_tree.specs.Standing.{IsStanding}
use Rattle.occ_tree.proofs.Grown.{standing_none}
use Rattle.occ_tree.proofs.nodes.Nodes.make.Goals as goal

pub invariant_of-result : goal.invariant_of-result
invariant_of-result c =
    let none = standing_none (present c.make.result) c.make.ensures.row in
    let now = subst (λ n. IsStanding n (present c.make.result)) (sym c.make.ensures.places) none in
    record { now = now; then_ = subst (IsStanding c.make.result.places) (sym c.make.ensures.committed) now }
