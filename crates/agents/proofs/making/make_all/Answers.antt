use Rattle.std.proofs.Common.{◌≡◌, ◌+◌, List, take, ap, sym, subst, ◌∙◌}
use Rattle.std.proofs.lemmas.Result.{err_from_is_err_and}
use Rattle.tmm_model.specs.declared.changes.Taken.{Taken}
use Rattle.tmm_model.specs.Changes.{changes, delta_of}
use Rattle.tmm_model.specs.Edits.{next_list}
use Rattle.tmm_model.specs.Kept.{IsAccepted}
use Rattle.tmm_model.specs.Standing.{Standing}
use Rattle.agents.specs.Commits.{AcceptedInTurn}
use Rattle.agents.specs.Holdings.{StopsOne}
use Rattle.agents.proofs.Steps.{accepted-next, list_after-next, stops-there}
use Rattle.agents.proofs.making.make_all.Goals as goal

pub returns-in_err-taken-clause-stops : goal.returns-in_err-taken-clause-stops
returns-in_err-taken-clause-stops g c =
    let p = err_from_is_err_and c.from_residual.result c.from_residual.ensures.1 in
    rw (p.1, p.2)
    (stops-there (g.M.MapCore.list c.args.core.now) c.args.edits.now c.loop-held.held-index c.loop-held.all.items c.held-item.result c.loop-held-test.true c.held-item.is c.loop-held.invariant.accepted c.in_err-taken.field-0.0
    (subst (λ (s : Standing). StopsOne s c.held-item.result c.in_err-taken.field-0.0) c.loop-held.invariant.list c.in_err-taken.ensures.stops))

pub loop-held-preserved : goal.loop-held-preserved
loop-held-preserved g c =
    let list = g.M.MapCore.list c.args.core.now in
    let edits = c.args.edits.now in
    let i = c.loop-held.held-index in
    let held = c.held-item.result in
    let all = c.loop-held.all.items in
    let taken = c.in_ok-taken.taken in
    record {
      accepted = subst (λ (ts : List Taken). AcceptedInTurn list (take (i + 1) edits) ts) (sym c.in_ok-append.ensures.ok)
          (accepted-next list edits i all held c.loop-held-test.true c.held-item.is taken c.loop-held.invariant.accepted
          (subst (λ (s : Standing). IsAccepted s held.edit) c.loop-held.invariant.list c.in_ok-taken.ensures.accepted)
          c.in_ok-taken.ensures.line
          (subst (λ (s : Standing). delta_of taken.changes ≡ changes s (next_list s held.edit)) c.loop-held.invariant.list c.in_ok-taken.ensures.changes));
      list = c.in_ok-taken.ensures.list
          ∙ ap (λ (s : Standing). next_list s held.edit) c.loop-held.invariant.list
          ∙ sym (list_after-next list edits i all held c.loop-held-test.true c.held-item.is);
      idle = c.make.ensures.idle;
    }
