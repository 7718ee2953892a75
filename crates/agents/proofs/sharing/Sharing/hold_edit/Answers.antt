use Rattle.agents.specs.States.{world_of}
use Rattle.agents.proofs.Answered.{held_turn}
use Rattle.agents.proofs.sharing.Sharing.hold_edit.Goals as goal

pub returns-in-Ok-hold-clause-answers : goal.returns-in-Ok-hold-clause-answers
returns-in-Ok-hold-clause-answers g c =
    held_turn (world_of g.M.MapCore.list c.args.self.now.agents) (world_of g.M.MapCore.list c.hold.new.self) c.args.line c.args.agent c.args.edit c.held-count.result c.in-Ok.done c.accept.result
    c.accept.ensures c.in-Ok-hold.ensures.allowed c.in-Ok-hold.ensures.held c.held-count.ensures.held c.in-Ok.ensures
