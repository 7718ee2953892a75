use Rattle.std.proofs.Common.{sym, subst}
use Rattle.std.proofs.lemmas.Result.{err_from_is_err_and}
use Rattle.tmm_model.specs.Answers.{size}
use Rattle.tmm_model.specs.Maps.{built}
use Rattle.tmm_model.specs.Standing.{Standing}
use Rattle.projection.specs.Queues.{IsTooLarge}
use Rattle.belief_net.proofs.Numbered.{keeps_numbers}
use Rattle.belief_net.proofs.Updated.{counted_within, updated}
use Rattle.belief_net.proofs.state.BeliefNet.update.Goals as goal

pub returns-in_err-settle-in-Ok-clause-stops : goal.returns-in_err-settle-in-Ok-clause-stops
returns-in_err-settle-in-Ok-clause-stops c =
    let p = err_from_is_err_and c.from_residual.result c.from_residual.ensures.1 in
    let list = c.requires.pending.list in
    rw (p.1, p.2)
    (subst (λ (l : Standing). IsTooLarge (size (built l)) c.in_err-settle-in-Ok.field-0.0) (sym list)
    (c.in_err-settle-in-Ok.ensures.stops c.args.standing.now.committed c.args.edit.now (sym list) c.in-Ok.ensures.begins))

pub returns-in_err-settle-in-Ok-clause-counted : goal.returns-in_err-settle-in-Ok-clause-counted
returns-in_err-settle-in-Ok-clause-counted c =
    let list = c.requires.pending.list in
    counted_within c.args.standing.now c.args.edit.now c.args.counter.now c.settle.new.count list
    (c.in_err-settle-in-Ok.ensures.counted c.args.standing.now.committed c.args.edit.now (sym list) c.in-Ok.ensures.begins)

pub returns-in_ok-settle-in-Ok-clause-ok : goal.returns-in_ok-settle-in-Ok-clause-ok
returns-in_ok-settle-in-Ok-clause-ok c =
    let list = c.requires.pending.list in
    updated c.args.standing.now c.args.net.now c.args.edit.now c.settle.new.beliefs c.settle.new.told c.args.counter.now c.settle.new.count list c.in_ok-settle-in-Ok.ensures.rests
    (c.in_ok-settle-in-Ok.ensures.settled c.args.standing.now.committed c.args.edit.now (sym list) c.in-Ok.ensures.begins)

pub returns-in_ok-settle-in-Ok-clause-counted : goal.returns-in_ok-settle-in-Ok-clause-counted
returns-in_ok-settle-in-Ok-clause-counted c =
    let list = c.requires.pending.list in
    counted_within c.args.standing.now c.args.edit.now c.args.counter.now c.settle.new.count list
    (c.in_ok-settle-in-Ok.ensures.counted c.args.standing.now.committed c.args.edit.now (sym list) c.in-Ok.ensures.begins)

pub returns-in_ok-settle-in-Ok-clause-numbered : goal.returns-in_ok-settle-in-Ok-clause-numbered
returns-in_ok-settle-in-Ok-clause-numbered c =
    let list = c.requires.pending.list in
    let u = updated c.args.standing.now c.args.net.now c.args.edit.now c.settle.new.beliefs c.settle.new.told c.args.counter.now c.settle.new.count list c.in_ok-settle-in-Ok.ensures.rests
    (c.in_ok-settle-in-Ok.ensures.settled c.args.standing.now.committed c.args.edit.now (sym list) c.in-Ok.ensures.begins) in
    keeps_numbers c.args.standing.now.present c.args.standing.now.committed c.args.net.now.present c.settle.new.beliefs.tree c.settle.new.told
    (c.in_ok-settle-in-Ok.ensures.numbered c.in-Ok.ensures.numbered) u.current.seen u.current.holds u.tells

pub returns-in_ok-settle-in-Ok-clause-roots : goal.returns-in_ok-settle-in-Ok-clause-roots
returns-in_ok-settle-in-Ok-clause-roots c = (c.in_ok-settle-in-Ok.ensures.numbered c.in-Ok.ensures.numbered).roots
