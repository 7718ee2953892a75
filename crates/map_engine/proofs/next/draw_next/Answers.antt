use Rattle.std.proofs.Common.{◌≡◌, ◌∙◌, ◌≤◌, ℕ, List, [], sym, ap, subst, arith}
use Rattle.tmm_model.specs.Edits.{next_list}
use Rattle.list_theory.specs.WellNamed.{IsSound}
use Rattle.list_theory.proofs.Elements.{both}
use Rattle.tmm_model.specs.Maps.{built}
use Rattle.belief_turns.specs.Settling.{counted}
use Rattle.belief_net.proofs.AlikeCounted.{none_changed}
use Rattle.belief_net.proofs.AlikeKept.{alike_kept}
use Rattle.occ_tree.specs.OfLists.{IsTreeOf}
use Rattle.occ_tree.specs.Places.{forest}
use Rattle.occ_tree.specs.Standing.{Kept, present, forest as forest_of}
use Rattle.revisions.specs.Alike.{AreAlike}
use Rattle.revisions.specs.Counted.{changed}
use Rattle.spots.specs.OfLists.{HasOccurrences}
use Rattle.spots.specs.Spots.{AreTokens}
use Rattle.supports.specs.Edited.{IsEdited, AreOthersUntouched}
use Rattle.map_engine.specs.Nexts.{after}
use Rattle.map_engine.specs.Reads.{IsReadOf, read_of}
use Rattle.map_engine.specs.Still.{are_elsewhere}
use Rattle.map_engine.proofs.Elsewhere.{elsewhere}
use Rattle.map_engine.proofs.StillEdited.{none_touched, still_edited}
use Rattle.map_engine.proofs.next.draw_next.Goals as goal

-- the tokens of each class are those of the nodes
abbrev HasTokens : Kept → Type 0
HasTokens k = (class : List ℕ) → AreTokens (forest_of (present k)) class ((present k).tokens class)

pub unmoved-requires-clause-view : goal.unmoved-requires-clause-view
unmoved-requires-clause-view c = subst (λ (k : Kept). IsReadOf c.args.standing.now.committed (forest k) (read_of c.args.view.now)) (sym c.tree.ensures) c.requires.rests.view

pub unmoved-requires-clause-seen : goal.unmoved-requires-clause-seen
unmoved-requires-clause-seen c =
    let lists = c.args.standing.now in
    let nets = c.args.net.now in
    let kept = alike_kept lists.committed lists.present nets.committed nets.present c.args.nodes.now (c.is_still.ensures.alike c.if-is_still.true) c.requires.pending.network c.requires.pending.numbers c.requires.rests.kept in
    subst (IsTreeOf lists.present nets.present) (sym c.tree.ensures) kept.fit.tree

pub unmoved-requires-clause-holds : goal.unmoved-requires-clause-holds
unmoved-requires-clause-holds c =
    let lists = c.args.standing.now in
    let nets = c.args.net.now in
    let kept = alike_kept lists.committed lists.present nets.committed nets.present c.args.nodes.now (c.is_still.ensures.alike c.if-is_still.true) c.requires.pending.network c.requires.pending.numbers c.requires.rests.kept in
    subst (λ (k : Kept). HasOccurrences (built lists.present).believed (forest k)) (sym c.tree.ensures) kept.current.holds

pub unmoved-requires-clause-edited : goal.unmoved-requires-clause-edited
unmoved-requires-clause-edited c =
    let lists = c.args.standing.now in
    let nets = c.args.net.now in
    let kept = alike_kept lists.committed lists.present nets.committed nets.present c.args.nodes.now (c.is_still.ensures.alike c.if-is_still.true) c.requires.pending.network c.requires.pending.numbers c.requires.rests.kept in
    subst (IsEdited lists nets c.args.edit.now) (sym c.tree.ensures)
    (still_edited lists nets c.args.edit.now c.args.erased.items c.args.nodes.now c.requires.rests.kept c.requires.pending kept.fit.tree.seen kept.current.holds
    (subst HasTokens c.tree.ensures c.have_tokens.ensures.rows))

pub unmoved-requires-clause-others : goal.unmoved-requires-clause-others
unmoved-requires-clause-others c =
    let lists = c.args.standing.now in
    let nets = c.args.net.now in
    let kept = alike_kept lists.committed lists.present nets.committed nets.present c.args.nodes.now (c.is_still.ensures.alike c.if-is_still.true) c.requires.pending.network c.requires.pending.numbers c.requires.rests.kept in
    let (unread, none) = both c.args.known.unread (are_elsewhere lists.present.premises nets.present.names nets.moved) (sym c.is_still.ensures.exact ∙ c.if-is_still.true) in
    subst (λ (k : Kept). AreOthersUntouched nets k []) (sym c.tree.ensures)
    (none_touched nets c.args.nodes.now.tree lists.present kept.fit.tree.seen
    (elsewhere lists.present c.requires.pending.network.sound.well_named nets.present.names nets.moved none) c.requires.rests.kept.tree)

pub returns-in-Ok-clause-nodes : goal.returns-in-Ok-clause-nodes
returns-in-Ok-clause-nodes c =
    let lists = c.args.standing.now in
    let nets = c.args.net.now in
    let kept = alike_kept lists.committed lists.present nets.committed nets.present c.args.nodes.now (c.is_still.ensures.alike c.if-is_still.true) c.requires.pending.network c.requires.pending.numbers c.requires.rests.kept in
    record { fit = kept.fit; current = kept.current; none_waits = kept.none_waits }

pub returns-in-Ok-clause-view : goal.returns-in-Ok-clause-view
returns-in-Ok-clause-view c =
    subst (λ (k : Kept). IsReadOf c.args.standing.now.present (forest k) (after c.unmoved.new.view c.in-Ok.made.0)) c.tree.ensures c.in-Ok.ensures.view

pub returns-in-Ok-clause-least : goal.returns-in-Ok-clause-least
returns-in-Ok-clause-least c =
    let lists = c.args.standing.now in
    let edit = c.args.edit.now in
    let is : lists.present ≡ next_list lists.committed edit = c.requires.pending.list in
    let alike : AreAlike lists.committed (next_list lists.committed edit) = subst (AreAlike lists.committed) is (c.is_still.ensures.alike c.if-is_still.true) in
    let none : changed lists.committed lists.present ≡ 0 =
    ap (changed lists.committed) is
    ∙ none_changed lists.committed edit c.requires.rests.kept.fit.tree.seen.network.sound (subst IsSound is c.requires.pending.network.sound) alike in
    subst (λ (n : ℕ). counted c.args.counter.now n ≤ c.args.counter.now) (sym none) (omega arith)
