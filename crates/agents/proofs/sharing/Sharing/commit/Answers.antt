use Rattle.std.proofs.Common.{false, true, List, sym, subst}
use Rattle.tmm_model.specs.declared.changes.Taken.{Taken}
use Rattle.agents.specs.Batches.{held_by}
use Rattle.agents.specs.Commits.{AcceptedInTurn, list_after}
use Rattle.agents.specs.States.{Offered, taken_over, world_of}
use Rattle.agents.specs.Turns.{TurnIs, Closes}
use Rattle.agents.specs.Worlds.{World}
use Rattle.agents.proofs.Answered.{committed_all, committed_none}
use Rattle.agents.proofs.sharing.Sharing.commit.Goals as goal

pub returns-in-Ok-clause-answers : goal.returns-in-Ok-clause-answers
returns-in-Ok-clause-answers g c =
    let list = g.M.MapCore.list in
    let old : World = world_of list c.args.self.now.agents in
    let new : World = world_of list c.close.new.self.agents in
    let o : Offered = record { agent = c.args.agent; list = list_after old.list (held_by old.batches c.args.agent) } in
    committed_all old new c.args.line c.args.agent c.items.result.now c.reply_batch.result c.close.result
    (subst (λ (ts : List Taken). AcceptedInTurn old.list (held_by old.batches c.args.agent) ts) (sym c.items.ensures) c.in-Ok.ensures.accepted)
    c.reply_batch.ensures
    (subst (λ (w : World). TurnIs (Closes c.reply_batch.result false (taken_over o w)) w c.close.result new) c.in-Ok.ensures.same (c.close.ensures.answers o c.in-Ok.ensures.offers))

pub returns-in-Err-Refused-clause-answers : goal.returns-in-Err-Refused-clause-answers
returns-in-Err-Refused-clause-answers g c =
    let list = g.M.MapCore.list in
    let old : World = world_of list c.args.self.now.agents in
    let new : World = world_of list c.close-in-Err-Refused.new.self.agents in
    let o : Offered = record { agent = c.args.agent; list = old.list } in
    committed_none old new c.args.line c.args.agent c.in-Err-Refused.held c.in-Err-Refused.refusal c.reply_batch_no.result c.close-in-Err-Refused.result
    (rw c.in-Err-Refused.field-0-is at c.in-Err-Refused.ensures.stops)
    c.reply_batch_no.ensures
    (subst (λ (w : World). TurnIs (Closes c.reply_batch_no.result true (taken_over o w)) w c.close-in-Err-Refused.result new) c.in-Err-Refused.ensures.same
    (c.close-in-Err-Refused.ensures.answers o (rw c.in-Err-Refused.field-0-is at c.in-Err-Refused.ensures.offers_none)))
