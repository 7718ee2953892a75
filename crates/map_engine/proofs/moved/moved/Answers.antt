use Rattle.std.proofs.Common.{◌∙◌, List, ℕ, IfOk, sym, subst}
use Rattle.tmm_model.specs.declared.point.PointName.TheVariants.{Begin}
use Rattle.tmm_model.specs.Maps.{built}
use Rattle.tmm_model.specs.Moments.{At}
use Rattle.tmm_model.specs.Standing.{Standing}
use Rattle.list_theory.proofs.Elements.{In}
use Rattle.joined.specs.Netted.{IsCurrent}
use Rattle.belief_turns.specs.Turning.{rows_of}
use Rattle.belief_net.specs.Updating.{IsPending}
use Rattle.occ_tree.specs.OfLists.{IsTreeOf}
use Rattle.occ_tree.specs.Places.{forest}
use Rattle.occ_tree.specs.Standing.{Kept, State, forest as forest_of}
use Rattle.spots.specs.Forest.{IsOnce}
use Rattle.spots.specs.OfLists.{HasOccurrences}
use Rattle.supports.specs.Edited.{old_forest}
use Rattle.map_engine.specs.Nexts.{read_next}
use Rattle.map_engine.specs.Reads.{IsReadOf, read_of}
use Rattle.map_engine.specs.Ruled.{HasRuled}
use Rattle.map_engine.specs.Touching.{HasNodeOf, IsToldOf}
use Rattle.map_engine.proofs.Finding.{has_more}
use Rattle.map_engine.proofs.ToldOf.{told_of}
use Rattle.map_engine.proofs.moved.moved.Goals as goal

pub roots_named-requires : goal.roots_named-requires
roots_named-requires c = subst (λ (k : Kept). IsOnce (forest k)) (sym c.tree.ensures) c.requires.kept.fit.tree.seen.once

pub update-requires-clause-pending : goal.update-requires-clause-pending
update-requires-clause-pending c =
    subst (λ (names : List (List ℕ)). IsPending c.args.standing.now c.args.net.now c.args.edit.now names) (sym c.items-2.ensures) c.requires.pending

pub push_ruled-requires : goal.push_ruled-requires
push_ruled-requires c = record { fit = (c.args.standing.now.present, c.args.net.now.present, c.in_ok-told.ensures.ok.rests.fit) }

pub read-requires-clause-seen : goal.read-requires-clause-seen
read-requires-clause-seen c = subst (IsTreeOf c.args.standing.now.present c.args.net.now.present) (sym c.tree-2.ensures) c.in_ok-told.ensures.ok.rests.fit.tree

pub read-requires-clause-holds : goal.read-requires-clause-holds
read-requires-clause-holds c =
    subst (λ (k : Kept). HasOccurrences (built c.args.standing.now.present).believed (forest k)) (sym c.tree-2.ensures) c.in_ok-told.ensures.ok.current.holds

pub read-requires-clause-told : goal.read-requires-clause-told
read-requires-clause-told c =
    let lists = c.args.standing.now in
    let nets = c.args.net.now in
    let erased = c.args.erased.items in
    subst (λ (k : Kept). IsToldOf lists nets c.args.edit.now k c.in_ok-told.told c.as_slice.result.now) (sym c.tree-2.ensures)
    (told_of lists nets c.args.edit.now erased c.args.nodes.now c.update.new.self c.args.counter.now c.update.new.counter c.in_ok-told.told c.as_slice.result.now
    c.requires.kept c.requires.pending c.update.ensures.last c.in_ok-told.ensures.ok c.in_ok-told.ensures.numbered c.in_ok-told.ensures.roots
    (λ name at.
    subst (HasNodeOf (forest c.args.nodes.now.tree) (At (Begin name))) (sym c.as_slice.ensures.value)
    (has_more (forest c.args.nodes.now.tree) (At (Begin name)) c.in-Ok.others.items c.push_ruled.new.found.items c.in-Ok-push_ruled.ensures.kept
    (subst (λ (k : Kept). HasNodeOf (forest k) (At (Begin name)) c.in-Ok.others.items) c.tree.ensures (c.in-Ok.ensures name (subst (In name) (sym c.items.ensures) at))))))

pub read-requires-clause-ruled : goal.read-requires-clause-ruled
read-requires-clause-ruled c =
    let lists = c.args.standing.now in
    let nets = c.args.net.now in
    let edit = c.args.edit.now in
    let b = c.update.new.self in
    let current = subst (λ (s : Standing). IsCurrent s nets.present (forest b.tree) (rows_of b)) c.requires.pending.list c.in_ok-told.ensures.ok.current in
    subst (λ (k : Kept). HasRuled (forest k) lists.committed.premises edit c.as_slice.result.now) (sym c.tree-2.ensures)
    (subst (HasRuled (forest b.tree) lists.committed.premises edit) (sym c.as_slice.ensures.value) (c.in-Ok-push_ruled.ensures.pushed lists.committed nets.present c.requires.ruling current))

pub read-requires-clause-view : goal.read-requires-clause-view
read-requires-clause-view c =
    let list = c.args.standing.now.committed in
    subst (λ (k : Kept). IsReadOf list (old_forest k) (read_of c.args.view.now)) (sym c.tree-2.ensures)
    (subst (λ (s : State). IsReadOf list (forest_of s) (read_of c.args.view.now)) (sym (c.in_ok-told.ensures.last.tree ∙ c.requires.kept.tree)) c.requires.view)

pub returns-clause-view : goal.returns-clause-view
returns-clause-view c =
    subst (λ (k : Kept). IfOk c.read.result (λ made. IsReadOf c.args.standing.now.present (forest k) (read_next c.read.new.view made.0))) c.tree-2.ensures c.read.ensures.view
