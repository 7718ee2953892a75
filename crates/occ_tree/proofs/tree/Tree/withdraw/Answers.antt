use Rattle.std.proofs.Common.{◌≡◌, ◌∙◌, ap, sym, subst}
use Rattle.undo_lists.specs.Changes as lists
use Rattle.undo_rows.specs.Changes.{table_in}
use Rattle.undo_rows.specs.Tables.{Table}
use Rattle.occ_tree.specs.Below.{ListsBelow, without_rows}
use Rattle.occ_tree.specs.declared.node.Node.{Node}
use Rattle.occ_tree.specs.Edits.{Withdraws}
use Rattle.spots.specs.Forest.{IsLive}
use Rattle.occ_tree.specs.Standing.{Kept, nodes_in, present_rows, committed_rows, tokens_under, present, forest}
use Rattle.occ_tree.proofs.Entered.{committed_same}
use Rattle.occ_tree.proofs.Gone.{kept_left, shrinks}
use Rattle.occ_tree.proofs.Keeping.{kept_same, node_if_live}
use Rattle.occ_tree.proofs.Listed.{siblings_are}
use Rattle.occ_tree.proofs.Numbered.{no_more}
use Rattle.occ_tree.proofs.tree.Tree.withdraw.Goals as goal

pub leave_all-requires-clause-below : goal.leave_all-requires-clause-below
leave_all-requires-clause-below c =
    (c.args.x, subst (λ (t : Table Node 1). ListsBelow (nodes_in t) c.args.x c.in_ok-numbers.numbers.items) (sym c.in_ok-numbers.ensures.keeps.present_is) c.in_ok-numbers.ensures.below)

pub invariant_of-self-2 : goal.invariant_of-self-2
invariant_of-self-2 c =
    let r = c.in_ok-numbers.ensures in
    let a = c.leave_all.ensures in
    let names = c.self.inside.classes in
    let t = present_rows c.self.inside.nodes in
    let u = present_rows c.leave_all.new.nodes in
    let then = committed_rows c.self.inside.nodes in
    let numbers = c.in_ok-numbers.numbers.items in
    let is : u ≡ without_rows numbers t = a.rows ∙ ap (without_rows numbers) r.keeps.present_is in
    record {
      now = kept_left t u c.args.x numbers r.below is r.stands.placed names (lists.present c.self.inside.tokens) (lists.present c.leave_all.new.tokens) c.self.invariant.now a.tokens;
      then_ = kept_same names then (committed_rows c.leave_all.new.nodes) (lists.committed c.self.inside.tokens) (lists.committed c.leave_all.new.tokens) (a.committed_rows ∙ r.keeps.committed_is) (a.committed ∙ r.committed) c.self.invariant.then_;
    }

pub returns-clause-ok : goal.returns-clause-ok
returns-clause-ok c =
    let r = c.in_ok-numbers.ensures in
    let a = c.leave_all.ensures in
    let names = c.self.inside.classes in
    let rows = c.self.inside.nodes.rows in
    let t = present_rows c.self.inside.nodes in
    let u = present_rows c.leave_all.new.nodes in
    let numbers = c.in_ok-numbers.numbers.items in
    let is : u ≡ without_rows numbers t = a.rows ∙ ap (without_rows numbers) r.keeps.present_is in
    let old : Kept = record { nodes = c.self.inside.nodes; classes = names; tokens = c.self.inside.tokens } in
    let new : Kept = record { nodes = c.leave_all.new.nodes; classes = names; tokens = c.leave_all.new.tokens } in
    let (n, at) = node_if_live (nodes_in t) c.args.x (subst (λ (k : Kept). IsLive (forest (present k)) c.args.x) (sym c.self.view_is) c.requires) in
    subst (λ (k : Kept). Withdraws k new c.args.x) c.self.view_is (record {
      shrinks = shrinks t u c.args.x numbers r.below is r.stands.placed n at (λ parent y. (siblings_are (table_in rows.rows rows.families) r.listed c.self.inside.nodes.rows.places r.stands parent y).0) (r.listed.once 0)
          (tokens_under names (lists.present c.self.inside.tokens)) (tokens_under names (lists.present c.leave_all.new.tokens));
      committed_is = committed_same old new c.self.invariant (no_more names) (a.committed_rows ∙ r.keeps.committed_is) (a.committed ∙ r.committed);
    })
