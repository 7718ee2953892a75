use Rattle.std.proofs.Common.{ℕ, sym, subst}
use Rattle.undo_rows.specs.Changes.{present, committed}
use Rattle.occ_tree.specs.Below.{IsRightBelow}
use Rattle.occ_tree.specs.Standing.{Grove, nodes_in, present_rows, IsStanding}
use Rattle.occ_tree.proofs.Fewer.{standing_left}
use Rattle.occ_tree.proofs.Placing.{have_parents}
use Rattle.occ_tree.proofs.nodes.Nodes.take.Goals as goal

pub invariant_of-self : goal.invariant_of-self
invariant_of-self c =
    let old = present c.self.inside.rows in
    let removed = c.remove_reserved.ensures.removed in
    let leaf = subst (λ (g : Grove). (y : ℕ) → IsRightBelow (nodes_in (present_rows g)) c.args.x y → ⊥) (sym c.self.view_is) c.requires.leaf in
    let same = c.remove_reserved.ensures.places in
    record {
      now = subst (λ n. IsStanding n (present c.remove_reserved.new.self)) (sym same)
          (standing_left old (present c.remove_reserved.new.self) c.args.x removed.present_is leaf c.self.inside.rows.places (have_parents (nodes_in old) c.self.invariant.now.placed) c.self.invariant.now);
      then_ = subst (λ n. IsStanding n (committed c.remove_reserved.new.self)) (sym same) (subst (IsStanding c.self.inside.rows.places) (sym removed.committed_is) c.self.invariant.then_);
    }
