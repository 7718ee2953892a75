use Rattle.std.proofs.Common.{◌≡◌, ◌∙◌, Some, refl, sym, subst, w64}
use Rattle.std.proofs.lemmas.Int.{to_z-of_z}
use Rattle.std.proofs.lemmas.Result.{err_from_is_err_and}
use Rattle.std.specs.Prelude.{◌+ℤ◌}
use Rattle.spots.specs.declared.link.Link.{Link}
use Rattle.occ_tree.specs.Classes.{IsNumberOf}
use Rattle.occ_tree.specs.Nodes.{IsEffect}
use Rattle.spots.specs.Forest.{Member, IsTrigger, child_member}
use Rattle.occ_tree.specs.Standing.{Kept, nodes_in, present_rows, present, forest, early}
use Rattle.occ_tree.specs.Edits.{Enters}
use Rattle.occ_tree.specs.Places.{PlacesGrow}
use Rattle.occ_tree.proofs.Entered.{tree_stays, stays, tree_entered, committed_same, effect_in_time}
use Rattle.occ_tree.proofs.Entering.{gone_before, grows_child}
use Rattle.occ_tree.proofs.tree.Tree.insert_child.Goals as goal

pub invariant_of-self : goal.invariant_of-self
invariant_of-self c =
    let old : Kept = record { nodes = c.self.inside.nodes; classes = c.self.inside.classes; tokens = c.self.inside.tokens } in
    let new : Kept = record { nodes = c.self.inside.nodes; classes = c.number_for.new.classes; tokens = c.number_for.new.tokens } in
    let n = c.number_for.ensures in
    tree_stays old new c.self.invariant n.more (record { present_is = refl; committed_is = refl; places_are = refl }) n.present n.committed

pub returns-in_err-list-clause-err : goal.returns-in_err-list-clause-err
returns-in_err-list-clause-err c =
    let old : Kept = record { nodes = c.self.inside.nodes; classes = c.self.inside.classes; tokens = c.self.inside.tokens } in
    let new : Kept = record { nodes = c.self.inside.nodes; classes = c.number_for.new.classes; tokens = c.number_for.new.tokens } in
    let n = c.number_for.ensures in
    let p = err_from_is_err_and c.from_residual.result c.from_residual.ensures.1 in
    rw (p.1, ← c.self.view_is) (stays old new c.self.invariant n.more (record { present_is = refl; committed_is = refl; places_are = refl }) n.present n.committed)

pub invariant_of-self-in_err-x : goal.invariant_of-self-in_err-x
invariant_of-self-in_err-x c =
    let old : Kept = record { nodes = c.self.inside.nodes; classes = c.self.inside.classes; tokens = c.self.inside.tokens } in
    let new : Kept = record { nodes = c.enter.new.nodes; classes = c.number_for.new.classes; tokens = c.enter.new.tokens } in
    let n = c.number_for.ensures in
    let e = c.in_err-x.ensures in
    tree_stays old new c.self.invariant n.more e.err.0 (e.err.1 ∙ n.present) (e.committed ∙ n.committed)

pub returns-in_err-x-clause-err : goal.returns-in_err-x-clause-err
returns-in_err-x-clause-err c =
    let old : Kept = record { nodes = c.self.inside.nodes; classes = c.self.inside.classes; tokens = c.self.inside.tokens } in
    let new : Kept = record { nodes = c.enter.new.nodes; classes = c.number_for.new.classes; tokens = c.enter.new.tokens } in
    let n = c.number_for.ensures in
    let e = c.in_err-x.ensures in
    let p = err_from_is_err_and c.from_residual-in_err-x.result c.from_residual-in_err-x.ensures.1 in
    rw (p.1, ← c.self.view_is) (stays old new c.self.invariant n.more e.err.0 (e.err.1 ∙ n.present) (e.committed ∙ n.committed))

pub invariant_of-self-2 : goal.invariant_of-self-2
invariant_of-self-2 c =
    let old : Kept = record { nodes = c.self.inside.nodes; classes = c.self.inside.classes; tokens = c.self.inside.tokens } in
    let new : Kept = record { nodes = c.enter.new.nodes; classes = c.number_for.new.classes; tokens = c.enter.new.tokens } in
    let e = c.in_ok-x.ensures in
    let n = c.effect-node.result in
    let r = c.effect-node.ensures.effect in
    let link : Link = record { rule = c.args.rule; lo = _; hi = c.args.hi } in
    let number : IsNumberOf new.classes n.class n.list = subst (λ l. IsNumberOf new.classes n.class l) (sym r.list_is) (subst (λ k. IsNumberOf new.classes k c.in_ok-list.list) (sym r.class_is) c.in_ok-list.ensures.number.0) in
    tree_entered old new c.self.invariant c.number_for.ensures.more c.in_ok-x.x n e.ok e.placed c.effect-node.ensures.placed (effect_in_time (nodes_in (present_rows old.nodes)) c.args.parent link c.args.what c.args.class c.in_ok-list.list c.args.shape n r) number e.tokens (e.committed ∙ c.number_for.ensures.committed)

pub returns-clause-ok : goal.returns-clause-ok
returns-clause-ok c = λ m m_at.
    let a = c.args in
    let old : Kept = record { nodes = c.self.inside.nodes; classes = c.self.inside.classes; tokens = c.self.inside.tokens } in
    let new : Kept = record { nodes = c.enter.new.nodes; classes = c.number_for.new.classes; tokens = c.enter.new.tokens } in
    let e = c.in_ok-x.ensures in
    let adds = e.ok in
    let n = c.effect-node.result in
    let link : Link = record { rule = a.rule; lo = a.lo; hi = a.hi } in
    subst (λ (k : Kept). Enters k new c.in_ok-x.x (child_member m link a.what a.class a.shape) (Some a.parent) (early (present k) a.parent +ℤ a.lo)) c.self.view_is (record {
      grows = grows_child old new c.in_ok-x.x n adds e.placed c.effect-node.ensures.placed a.parent link a.what a.class c.in_ok-list.list a.shape m (subst (λ (k : Kept). forest (present k) a.parent ≡ Some m) (sym c.self.view_is) m_at) (subst (λ lo. IsEffect (nodes_in (present_rows old.nodes)) a.parent (record { rule = a.rule; lo = lo; hi = a.hi }) a.what a.class c.in_ok-list.list a.shape n) (to_z-of_z w64 a.lo c.ranges.lo) c.effect-node.ensures.effect);
      was_free = gone_before old new c.in_ok-x.x n adds e.placed c.effect-node.ensures.placed;
      committed_is = committed_same old new c.self.invariant c.number_for.ensures.more adds.committed_is (e.committed ∙ c.number_for.ensures.committed);
    })

pub effect-node-requires-clause-trigger : goal.effect-node-requires-clause-trigger
effect-node-requires-clause-trigger c =
    subst (λ (k : Kept). (m : Member) × (forest (present k) c.args.parent ≡ Some m) × IsTrigger (forest (present k)) m c.args.rule) (sym c.self.view_is) c.requires.trigger

pub returns-clause-grows : goal.returns-clause-grows
returns-clause-grows c =
    let new : Kept = record { nodes = c.enter.new.nodes; classes = c.number_for.new.classes; tokens = c.enter.new.tokens } in
    subst (λ (k : Kept). PlacesGrow k new) c.self.view_is c.in_ok-x.ensures.ok.places_grow
