use Rattle.std.proofs.Common.{◌≡◌, ◌∙◌, ◌≤◌, refl, ap, sym, subst}
use Rattle.tmm_model.specs.Answers.{size, most_size}
use Rattle.tmm_model.specs.Changes.{changes}
use Rattle.tmm_model.specs.Edits.{next_list}
use Rattle.tmm_model.specs.Kept.{IsAccepted}
use Rattle.tmm_model.specs.Maps.{built}
use Rattle.tmm_model.specs.Standing.{Standing}
use Rattle.tmm_model.specs.Verdicts.{list_cause}
use Rattle.list_theory.specs.WellNamed.{IsWellNamed}
use Rattle.projection.specs.Queues.{IsTooLarge}
use Rattle.premise_list.specs.States.{States}
use Rattle.revisions.specs.Alike.{SayAlike}
use Rattle.revisions.specs.Ruling.{is_ruling}
use Rattle.revisions.proofs.UnreadEdits.{unread_edit}
use Rattle.map_core.specs.MapStates.{MapState}
use Rattle.map_core.specs.Stops.{StopsEdit}
use Rattle.map_engine.proofs.NetMaps.{counts_edit, counts_least, is_nothing, rests_before, unguarded_before, unguarded_after, pending_edit, edited_map, undone_map}
use Rattle.belief_list.proofs.WholeChanges.{too_large, named_large}
use Rattle.map_engine.proofs.net_map.NetMapMapCore.apply.Goals as goal

pub draw_next-requires-clause-rests : goal.draw_next-requires-clause-rests
draw_next-requires-clause-rests c =
    let m = c.self.inside in
    rests_before m.standing m.net m.nodes m.view m.guarded m.next c.self.invariant c.apply_edit.new.standing c.args.edit.now c.in_ok-erased.ensures.list c.requires.well_formed
    c.apply_edit.new.net c.in_ok-erased.ensures.committed c.may_guard-self-inside.result c.may_guard-self-inside.ensures (ap (λ (m : MapState). m.pending) c.self.view_is ∙ c.requires.idle)

pub draw_next-requires-clause-pending : goal.draw_next-requires-clause-pending
draw_next-requires-clause-pending c =
    let m = c.self.inside in
    pending_edit m.standing m.net m.nodes m.view m.guarded m.next c.self.invariant c.apply_edit.new.standing c.args.edit.now c.in_ok-erased.ensures.list c.requires.well_formed
    c.apply_edit.new.net c.in_ok-erased.ensures.committed c.may_guard-self-inside.result c.may_guard-self-inside.ensures (ap (λ (m : MapState). m.pending) c.self.view_is ∙ c.requires.idle)
    c.in_ok-erased.erased.items c.in_ok-erased.ensures.network c.in_ok-erased.ensures.numbers c.in_ok-erased.ensures.erased

pub draw_next-requires-clause-before : goal.draw_next-requires-clause-before
draw_next-requires-clause-before c =
    let settled = c.self.invariant.settled (ap (λ (m : MapState). m.pending) c.self.view_is ∙ c.requires.idle) in
    c.horizon.ensures
    ∙ ap (λ (s : Standing). s.horizon) settled.list
    ∙ ap (λ (s : States). s.committed.horizon) (sym c.in_ok-erased.ensures.list)

pub draw_next-requires-clause-unread : goal.draw_next-requires-clause-unread
draw_next-requires-clause-unread c = λ unread.
    let lists = c.self.inside.standing in
    let edit = c.args.edit.now in
    let settled = c.self.invariant.settled (ap (λ (m : MapState). m.pending) c.self.view_is ∙ c.requires.idle) in
    let made = c.in_ok-erased.ensures.list in
    let say : SayAlike lists.present (next_list lists.present edit) =
    unread_edit lists.present edit c.self.invariant.next_held.network.sound.well_named
    (subst (λ (s : States). IsWellNamed s.present.premises) made c.in_ok-erased.ensures.network.sound.well_named) (sym c.is_unread.ensures ∙ unread) in
    subst (λ (s : States). SayAlike s.committed s.present) (sym made) (subst (λ (s : Standing). SayAlike s (next_list lists.present edit)) settled.list say)

pub draw_next-requires-clause-ruling : goal.draw_next-requires-clause-ruling
draw_next-requires-clause-ruling c =
    let edit = c.args.edit.now in
    let settled = c.self.invariant.settled (ap (λ (m : MapState). m.pending) c.self.view_is ∙ c.requires.idle) in
    c.is_ruling.ensures
    ∙ ap (λ (s : Standing). is_ruling s.premises edit) settled.list
    ∙ ap (λ (s : States). is_ruling s.committed.premises edit) (sym c.in_ok-erased.ensures.list)

pub draw_next-requires-clause-unguarded_now : goal.draw_next-requires-clause-unguarded_now
draw_next-requires-clause-unguarded_now c =
    let m = c.self.inside in
    unguarded_after m.standing m.net m.nodes m.view m.guarded m.next c.self.invariant c.apply_edit.new.standing c.args.edit.now c.in_ok-erased.ensures.list c.requires.well_formed
    c.apply_edit.new.net c.in_ok-erased.ensures.committed c.may_guard-self-inside.result c.may_guard-self-inside.ensures

pub draw_next-requires-clause-unguarded_before : goal.draw_next-requires-clause-unguarded_before
draw_next-requires-clause-unguarded_before c =
    let m = c.self.inside in
    unguarded_before m.standing m.net m.nodes m.view m.guarded m.next c.self.invariant c.apply_edit.new.standing c.args.edit.now c.in_ok-erased.ensures.list c.requires.well_formed
    c.apply_edit.new.net c.in_ok-erased.ensures.committed c.may_guard-self-inside.result c.may_guard-self-inside.ensures

pub invariant_of-self-in-Ok : goal.invariant_of-self-in-Ok
invariant_of-self-in-Ok c =
    let m = c.self.inside in
    edited_map m.standing m.net m.nodes m.view m.guarded m.next c.self.invariant c.apply_edit.new.standing c.args.edit.now c.in_ok-erased.ensures.list c.requires.well_formed
    c.apply_edit.new.net c.in_ok-erased.ensures.committed c.may_guard-self-inside.result c.may_guard-self-inside.ensures (ap (λ (m : MapState). m.pending) c.self.view_is ∙ c.requires.idle)
    c.draw_next.new.nodes c.draw_next.new.view c.in-Ok.next c.in_ok-erased.ensures.network c.in-Ok.ensures.nodes c.in-Ok.ensures.same c.in-Ok.ensures.view c.in-Ok.ensures.places
    c.in-Ok.ensures.last c.in-Ok.ensures.pending

pub returns-in-Ok-clause-accepted : goal.returns-in-Ok-clause-accepted
returns-in-Ok-clause-accepted c =
    let lists = c.self.inside.standing in
    let edit = c.args.edit.now in
    let settled = c.self.invariant.settled (ap (λ (m : MapState). m.pending) c.self.view_is ∙ c.requires.idle) in
    let present : lists.present ≡ c.args.self.now.list = settled.list ∙ ap (λ (m : MapState). m.list) c.self.view_is in
    subst (λ (s : Standing). IsAccepted s edit) present
    (record {
      no_cause = c.in_default.ensures.ok.0 refl;
      dates = c.in_ok-erased.ensures.dates;
      small = subst (λ (s : States). size (built s.present) ≤ most_size) c.in_ok-erased.ensures.list c.in-Ok.ensures.view.small;
    })

pub returns-in-Ok-clause-changes : goal.returns-in-Ok-clause-changes
returns-in-Ok-clause-changes c =
    let lists = c.self.inside.standing in
    let edit = c.args.edit.now in
    let settled = c.self.invariant.settled (ap (λ (m : MapState). m.pending) c.self.view_is ∙ c.requires.idle) in
    let committed : lists.committed ≡ c.args.self.now.list = ap (λ (m : MapState). m.list) c.self.view_is in
    c.in-Ok.ensures.changes
    ∙ ap (λ (s : States). changes s.committed s.present) c.in_ok-erased.ensures.list
    ∙ ap (λ (s : Standing). changes lists.committed (next_list s edit)) settled.list
    ∙ ap (λ (s : Standing). changes s (next_list s edit)) committed

pub returns-in-Err-draw_next-clause-stops : goal.returns-in-Err-draw_next-clause-stops
returns-in-Err-draw_next-clause-stops c =
    let lists = c.self.inside.standing in
    let edit = c.args.edit.now in
    let settled = c.self.invariant.settled (ap (λ (m : MapState). m.pending) c.self.view_is ∙ c.requires.idle) in
    let present : lists.present ≡ c.args.self.now.list = settled.list ∙ ap (λ (m : MapState). m.list) c.self.view_is in
    let new : c.apply_edit.new.standing.present ≡ next_list lists.present edit = ap (λ (s : States). s.present) c.in_ok-erased.ensures.list in
    subst (λ (s : Standing). StopsEdit s edit c.in-Err-draw_next.stop) present
    (too_large lists.present edit (c.in_default.ensures.ok.0 refl) c.in_ok-erased.ensures.dates c.in-Err-draw_next.stop
    (subst (λ (s : Standing). IsTooLarge (size (built s)) c.in-Err-draw_next.stop) new c.in-Err-draw_next.ensures.stops))

pub invariant_of-self-in-Err-draw_next : goal.invariant_of-self-in-Err-draw_next
invariant_of-self-in-Err-draw_next c =
    let m = c.self.inside in
    let idle = ap (λ (m : MapState). m.pending) c.self.view_is ∙ c.requires.idle in
    undone_map m.standing m.net m.nodes m.view m.guarded m.next c.self.invariant c.apply_edit.new.standing c.args.edit.now c.in_ok-erased.ensures.list c.requires.well_formed
    c.apply_edit.new.net c.in_ok-erased.ensures.committed c.may_guard-self-inside.result c.may_guard-self-inside.ensures idle
    c.draw_next.new.nodes c.rollback.new.self c.draw_next.new.view c.roll_back.new.standing c.roll_back.new.net (is_nothing m.standing.present m.next idle)
    c.in-Err-draw_next.ensures.same c.in-Err-draw_next.ensures.last
    c.roll_back.ensures.list c.roll_back.ensures.net c.rollback.ensures.nodes c.rollback.ensures.kept

pub returns-in-Ok-clause-within : goal.returns-in-Ok-clause-within
returns-in-Ok-clause-within c =
    let settled = c.self.invariant.settled (ap (λ (m : MapState). m.pending) c.self.view_is ∙ c.requires.idle) in
    let committed : c.self.inside.standing.committed ≡ c.args.self.now.list = ap (λ (m : MapState). m.list) c.self.view_is in
    counts_edit c.self.inside.standing c.apply_edit.new.standing c.args.edit.now c.args.self.now.list c.args.counter.now c.draw_next.new.counter c.in_ok-erased.ensures.list
    settled.list committed
    (ap (λ (s : Standing). list_cause s c.args.edit.now) (sym (settled.list ∙ committed)) ∙ c.in_default.ensures.ok.0 refl)
    c.in-Ok.ensures.within

pub returns-in-Err-draw_next-clause-within : goal.returns-in-Err-draw_next-clause-within
returns-in-Err-draw_next-clause-within c =
    let settled = c.self.invariant.settled (ap (λ (m : MapState). m.pending) c.self.view_is ∙ c.requires.idle) in
    let committed : c.self.inside.standing.committed ≡ c.args.self.now.list = ap (λ (m : MapState). m.list) c.self.view_is in
    counts_edit c.self.inside.standing c.apply_edit.new.standing c.args.edit.now c.args.self.now.list c.args.counter.now c.draw_next.new.counter c.in_ok-erased.ensures.list
    settled.list committed
    (ap (λ (s : Standing). list_cause s c.args.edit.now) (sym (settled.list ∙ committed)) ∙ c.in_default.ensures.ok.0 refl)
    c.in-Err-draw_next.ensures.within

pub returns-in-Ok-clause-least : goal.returns-in-Ok-clause-least
returns-in-Ok-clause-least c =
    let settled = c.self.invariant.settled (ap (λ (m : MapState). m.pending) c.self.view_is ∙ c.requires.idle) in
    let committed : c.self.inside.standing.committed ≡ c.args.self.now.list = ap (λ (m : MapState). m.list) c.self.view_is in
    counts_least c.self.inside.standing c.apply_edit.new.standing c.args.edit.now c.args.self.now.list c.args.counter.now c.draw_next.new.counter c.in_ok-erased.ensures.list
    settled.list committed c.in-Ok.ensures.least

pub returns-in-Err-draw_next-clause-named : goal.returns-in-Err-draw_next-clause-named
returns-in-Err-draw_next-clause-named c = named_large (size (built c.apply_edit.new.standing.present)) c.in-Err-draw_next.stop c.in-Err-draw_next.ensures.stops
