use Rattle.std.proofs.Common.{inl, inr, ◌<◌, ◌≤◌, sym, ap, ◌∙◌, subst, arith, Some, [], ◌∷◌, IsSome}
use Rattle.std.specs.Prelude.{IfSome}
use Rattle.undo_rows.specs.Changes.{present, committed}
use Rattle.undo_rows.specs.Tables.{new_row, with_new}
use Rattle.occ_tree.specs.Nodes.{WillBePlaced}
use Rattle.occ_tree.specs.Standing.{Grove, nodes_in, present_rows, IsStanding, head_for}
use Rattle.occ_tree.proofs.Grown.{parent_there, standing_new, standing_more}
use Rattle.occ_tree.proofs.nodes.Nodes.add.Goals as goal

pub head_below-head-requires : goal.head_below-head-requires
head_below-head-requires c =
    subst (λ o. IfSome o (λ p. IsSome (nodes_in (present_rows c.args.self.now) p))) (sym c.parent.ensures) (parent_there (nodes_in (present_rows c.args.self.now)) c.args.node c.requires)

pub invariant_of-self-2 : goal.invariant_of-self-2
invariant_of-self-2 c =
    let x = c.in_ok-x.x in
    let old = present c.self.inside.rows in
    let new = present c.add.new.self in
    let most = c.add.new.self.places in
    let limit : c.self.inside.rows.places ≤ most = elim c.in_ok-x.ensures.grows [
      | inl same ↦ omega (arith, same)
      | inr more ↦ omega (arith, more.0)
    ] in
    let within : x < most = c.in_ok-x.ensures.below in
    let adds = c.in_ok-x.ensures.ok in
    let head = c.head_below-head.ensures ∙ ap head_for c.parent.ensures in
    let will = subst (λ (g : Grove). WillBePlaced (nodes_in (present_rows g)) c.args.node) (sym c.self.view_is) c.requires in
    record {
      now = standing_new old new x c.args.node adds.free (adds.present_is ∙ ap (λ h. with_new old x (new_row (Some h ∷ []) c.args.node)) head) c.self.inside.rows.places most limit within will c.self.invariant.now;
      then_ = subst (IsStanding most) (sym adds.committed_is) (standing_more (committed c.self.inside.rows) c.self.inside.rows.places most limit c.self.invariant.then_);
    }
