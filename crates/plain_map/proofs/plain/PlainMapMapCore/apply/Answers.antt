use Rattle.std.proofs.Common.{refl, ◌≡◌, ◌≤◌, ap, sym, subst, ◌∙◌}
use Rattle.tmm_model.specs.Answers.{size, most_size}
use Rattle.tmm_model.specs.Changes.{changes}
use Rattle.tmm_model.specs.Edits.{next_list}
use Rattle.tmm_model.specs.Kept.{IsAccepted}
use Rattle.tmm_model.specs.Maps.{built}
use Rattle.tmm_model.specs.Standing.{Standing}
use Rattle.projection.specs.Queues.{IsTooLarge}
use Rattle.premise_list.specs.States.{States}
use Rattle.list_theory.specs.LeftOut.{IsLeftOut}
use Rattle.map_core.specs.MapStates.{MapState}
use Rattle.map_core.specs.Stops.{StopsEdit}
use Rattle.plain_map.proofs.Nothing.{none_pending}
use Rattle.belief_list.proofs.WholeChanges.{too_large, named_large}
use Rattle.plain_map.proofs.plain.PlainMapMapCore.apply.Goals as goal

pub returns-in-Ok-clause-accepted : goal.returns-in-Ok-clause-accepted
returns-in-Ok-clause-accepted c =
    let lists = c.self.inside.standing in
    let edit = c.args.edit.now in
    let settled = c.self.invariant.settled (none_pending lists.present c.self.inside.next (ap (λ (m : MapState). m.pending) c.self.view_is ∙ c.requires.idle)) in
    let present : lists.present ≡ c.args.self.now.list = settled.list ∙ ap (λ (m : MapState). m.list) c.self.view_is in
    subst (λ (s : Standing). IsAccepted s edit) present
    (record {
      no_cause = c.in_default.ensures.ok.0 refl;
      dates = c.in_ok-erased.ensures.dates;
      small = subst (λ (s : States). size (built s.present) ≤ most_size) c.in_ok-erased.ensures.list c.in-Ok.ensures.beliefs.view.small;
    })

pub returns-in-Ok-clause-changes : goal.returns-in-Ok-clause-changes
returns-in-Ok-clause-changes c =
    let lists = c.self.inside.standing in
    let edit = c.args.edit.now in
    let settled = c.self.invariant.settled (none_pending lists.present c.self.inside.next (ap (λ (m : MapState). m.pending) c.self.view_is ∙ c.requires.idle)) in
    let committed : lists.committed ≡ c.args.self.now.list = ap (λ (m : MapState). m.list) c.self.view_is in
    let present : lists.present ≡ c.args.self.now.list = settled.list ∙ committed in
    let new : c.apply_edit.new.standing.present ≡ next_list lists.present edit = ap (λ (s : States). s.present) c.in_ok-erased.ensures.list in
    let left_out : IsLeftOut lists.committed c.apply_edit.new.standing.present c.in_ok-erased.erased.items =
    subst (λ (s : Standing). IsLeftOut s c.apply_edit.new.standing.present c.in_ok-erased.erased.items) settled.list
    (subst (λ (s : Standing). IsLeftOut lists.present s c.in_ok-erased.erased.items) (sym new) c.in_ok-erased.ensures.erased) in
    let told = c.in-Ok.ensures.changes lists.committed c.self.inside.net.committed c.self.invariant.believed left_out in
    told ∙ ap (λ (s : Standing). changes s c.apply_edit.new.standing.present) committed
    ∙ ap (λ (s : Standing). changes c.args.self.now.list s) (new ∙ ap (λ (s : Standing). next_list s edit) present)

pub returns-in-Err-project_and_compare-clause-stops : goal.returns-in-Err-project_and_compare-clause-stops
returns-in-Err-project_and_compare-clause-stops c =
    let lists = c.self.inside.standing in
    let edit = c.args.edit.now in
    let settled = c.self.invariant.settled (none_pending lists.present c.self.inside.next (ap (λ (m : MapState). m.pending) c.self.view_is ∙ c.requires.idle)) in
    let present : lists.present ≡ c.args.self.now.list = settled.list ∙ ap (λ (m : MapState). m.list) c.self.view_is in
    let new : c.apply_edit.new.standing.present ≡ next_list lists.present edit = ap (λ (s : States). s.present) c.in_ok-erased.ensures.list in
    subst (λ (s : Standing). StopsEdit s edit c.in-Err-project_and_compare.stop) present
    (too_large lists.present edit (c.in_default.ensures.ok.0 refl) c.in_ok-erased.ensures.dates c.in-Err-project_and_compare.stop
    (subst (λ (s : Standing). IsTooLarge (size (built s)) c.in-Err-project_and_compare.stop) new c.in-Err-project_and_compare.ensures.stops))

pub returns-in-Err-project_and_compare-clause-named : goal.returns-in-Err-project_and_compare-clause-named
returns-in-Err-project_and_compare-clause-named c = named_large (size (built c.apply_edit.new.standing.present)) c.in-Err-project_and_compare.stop c.in-Err-project_and_compare.ensures.stops
