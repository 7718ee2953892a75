use Rattle.std.proofs.Common.{◌∙◌, refl, sym, subst, w64}
use Rattle.std.proofs.lemmas.Int.{to_z-of_z}
use Rattle.std.proofs.lemmas.Result.{err_from_is_err_and}
use Rattle.occ_tree.specs.Classes.{IsNumberOf}
use Rattle.occ_tree.specs.Nodes.{IsRoot}
use Rattle.spots.specs.Forest.{IsNoRoot, root_member}
use Rattle.occ_tree.specs.Standing.{Kept, nodes_in, present_rows, present, forest}
use Rattle.occ_tree.specs.Edits.{Enters}
use Rattle.occ_tree.specs.Places.{PlacesGrow}
use Rattle.occ_tree.proofs.Entered.{tree_stays, stays, tree_entered, committed_same, root_in_time}
use Rattle.occ_tree.proofs.Entering.{gone_before, grows_root}
use Rattle.occ_tree.proofs.tree.Tree.insert_root.Goals as goal

pub invariant_of-self : goal.invariant_of-self
invariant_of-self c =
    let old : Kept = record { nodes = c.self.inside.nodes; classes = c.self.inside.classes; tokens = c.self.inside.tokens } in
    let new : Kept = record { nodes = c.self.inside.nodes; classes = c.number_for.new.classes; tokens = c.number_for.new.tokens } in
    let n = c.number_for.ensures in
    tree_stays old new c.self.invariant n.more (record { present_is = refl; committed_is = refl; places_are = refl }) n.present n.committed

pub returns-in_err-list-clause-err : goal.returns-in_err-list-clause-err
returns-in_err-list-clause-err c =
    let old : Kept = record { nodes = c.self.inside.nodes; classes = c.self.inside.classes; tokens = c.self.inside.tokens } in
    let new : Kept = record { nodes = c.self.inside.nodes; classes = c.number_for.new.classes; tokens = c.number_for.new.tokens } in
    let n = c.number_for.ensures in
    let p = err_from_is_err_and c.from_residual.result c.from_residual.ensures.1 in
    rw (p.1, ← c.self.view_is) (stays old new c.self.invariant n.more (record { present_is = refl; committed_is = refl; places_are = refl }) n.present n.committed)

pub root-node-requires-clause-new : goal.root-node-requires-clause-new
root-node-requires-clause-new c = subst (λ (k : Kept). IsNoRoot (forest (present k)) c.args.name) (sym c.self.view_is) c.requires.new

pub invariant_of-self-in_err-x : goal.invariant_of-self-in_err-x
invariant_of-self-in_err-x c =
    let old : Kept = record { nodes = c.self.inside.nodes; classes = c.self.inside.classes; tokens = c.self.inside.tokens } in
    let new : Kept = record { nodes = c.enter.new.nodes; classes = c.number_for.new.classes; tokens = c.enter.new.tokens } in
    let n = c.number_for.ensures in
    let e = c.in_err-x.ensures in
    tree_stays old new c.self.invariant n.more e.err.0 (e.err.1 ∙ n.present) (e.committed ∙ n.committed)

pub returns-in_err-x-clause-err : goal.returns-in_err-x-clause-err
returns-in_err-x-clause-err c =
    let old : Kept = record { nodes = c.self.inside.nodes; classes = c.self.inside.classes; tokens = c.self.inside.tokens } in
    let new : Kept = record { nodes = c.enter.new.nodes; classes = c.number_for.new.classes; tokens = c.enter.new.tokens } in
    let n = c.number_for.ensures in
    let e = c.in_err-x.ensures in
    let p = err_from_is_err_and c.from_residual-in_err-x.result c.from_residual-in_err-x.ensures.1 in
    rw (p.1, ← c.self.view_is) (stays old new c.self.invariant n.more e.err.0 (e.err.1 ∙ n.present) (e.committed ∙ n.committed))

pub invariant_of-self-2 : goal.invariant_of-self-2
invariant_of-self-2 c =
    let old : Kept = record { nodes = c.self.inside.nodes; classes = c.self.inside.classes; tokens = c.self.inside.tokens } in
    let new : Kept = record { nodes = c.enter.new.nodes; classes = c.number_for.new.classes; tokens = c.enter.new.tokens } in
    let e = c.in_ok-x.ensures in
    let n = c.root-node.result in
    let r = c.root-node.ensures.root in
    let number : IsNumberOf new.classes n.class n.list = subst (λ l. IsNumberOf new.classes n.class l) (sym r.list_is) (subst (λ k. IsNumberOf new.classes k c.in_ok-list.list) (sym r.class_is) c.in_ok-list.ensures.number.0) in
    tree_entered old new c.self.invariant c.number_for.ensures.more c.in_ok-x.x n e.ok e.placed c.root-node.ensures.placed (root_in_time (nodes_in (present_rows old.nodes)) n r.above_is) number e.tokens (e.committed ∙ c.number_for.ensures.committed)

pub returns-clause-ok : goal.returns-clause-ok
returns-clause-ok c =
    let a = c.args in
    let old : Kept = record { nodes = c.self.inside.nodes; classes = c.self.inside.classes; tokens = c.self.inside.tokens } in
    let new : Kept = record { nodes = c.enter.new.nodes; classes = c.number_for.new.classes; tokens = c.enter.new.tokens } in
    let e = c.in_ok-x.ensures in
    let adds = e.ok in
    let n = c.root-node.result in
    subst (λ (k : Kept). Enters k new c.in_ok-x.x (root_member a.name a.begin a.end a.what a.class a.shape) _ a.early) c.self.view_is (record {
      grows = grows_root old new c.in_ok-x.x n adds e.placed c.root-node.ensures.placed a.name a.begin a.end a.what a.class c.in_ok-list.list a.shape a.early (subst (λ z. IsRoot a.name a.begin a.end a.what a.class c.in_ok-list.list a.shape z n) (to_z-of_z w64 a.early c.ranges.early) c.root-node.ensures.root);
      was_free = gone_before old new c.in_ok-x.x n adds e.placed c.root-node.ensures.placed;
      committed_is = committed_same old new c.self.invariant c.number_for.ensures.more adds.committed_is (e.committed ∙ c.number_for.ensures.committed);
    })

pub returns-clause-grows : goal.returns-clause-grows
returns-clause-grows c =
    let new : Kept = record { nodes = c.enter.new.nodes; classes = c.number_for.new.classes; tokens = c.enter.new.tokens } in
    subst (λ (k : Kept). PlacesGrow k new) c.self.view_is c.in_ok-x.ensures.ok.places_grow
