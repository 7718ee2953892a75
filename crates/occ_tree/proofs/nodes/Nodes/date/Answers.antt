use Rattle.std.proofs.Common.{◌∙◌, ap, sym, subst, IsSome}
use Rattle.undo_rows.specs.Changes.{present, committed}
use Rattle.undo_rows.specs.Tables.{with_value}
use Rattle.occ_tree.specs.Edits.{Dates}
use Rattle.occ_tree.specs.Standing.{Grove, nodes_in, present_rows, IsStanding}
use Rattle.occ_tree.proofs.Moved.{value_at, sum_fits, sum_is, standing_dated}
use Rattle.occ_tree.proofs.nodes.Nodes.date.Goals as goal

pub overflow_add-node : goal.overflow_add-node
overflow_add-node c =
    let t = present c.self.inside.rows in
    let n = c.get-node.result.now in
    let at = value_at t c.args.x n (subst (λ (g : Grove). IsSome (nodes_in (present_rows g) c.args.x)) (sym c.self.view_is) c.requires.live) c.get-node.ensures in
    sum_fits (nodes_in t) c.self.invariant.now.placed c.args.x n at c.args.root_date c.requires.date

pub invariant_of-self : goal.invariant_of-self
invariant_of-self c =
    let t = present c.self.inside.rows in
    let u = present c.set_reserved.new.self in
    let n = c.get-node.result.now in
    let at = value_at t c.args.x n (subst (λ (g : Grove). IsSome (nodes_in (present_rows g) c.args.x)) (sym c.self.view_is) c.requires.live) c.get-node.ensures in
    let set = c.set_reserved.ensures.set in
    let is = set.present_is ∙ ap (λ e. with_value t c.args.x (record n { early = e })) (sum_is (nodes_in t) c.self.invariant.now.placed c.args.x n at c.args.root_date c.requires.date) in
    let same = c.set_reserved.ensures.places in
    record {
      now = subst (λ n. IsStanding n u) (sym same) (standing_dated t u c.args.x c.args.root_date n at is c.self.inside.rows.places c.requires.date c.self.invariant.now);
      then_ = subst (λ n. IsStanding n (committed c.set_reserved.new.self)) (sym same) (subst (IsStanding c.self.inside.rows.places) (sym set.committed_is) c.self.invariant.then_);
    }

pub returns-clause-dated : goal.returns-clause-dated
returns-clause-dated c =
    let t = present c.self.inside.rows in
    let n = c.get-node.result.now in
    let at = value_at t c.args.x n (subst (λ (g : Grove). IsSome (nodes_in (present_rows g) c.args.x)) (sym c.self.view_is) c.requires.live) c.get-node.ensures in
    let set = c.set_reserved.ensures.set in
    let is = set.present_is ∙ ap (λ e. with_value t c.args.x (record n { early = e })) (sum_is (nodes_in t) c.self.invariant.now.placed c.args.x n at c.args.root_date c.requires.date) in
    let new : Grove = record { rows = c.set_reserved.new.self } in
    subst (λ (g : Grove). Dates g new c.args.x c.args.root_date) c.self.view_is (record { node = n; at = at; present_is = is; committed_is = set.committed_is; places_are = c.set_reserved.ensures.places })
