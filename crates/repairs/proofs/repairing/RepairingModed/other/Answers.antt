use Rattle.tmm_session.specs.Kinds.{turn_of}
use Rattle.repairs.proofs.WellFormed.{step_leaves}
use Rattle.repairs.proofs.repairing.RepairingModed.other.Goals as goal

pub returns-clause-ready : goal.returns-clause-ready
returns-clause-ready g c = record {
  well_formed = step_leaves (g.M.MapCore.list c.args.self.now.core) (g.M.MapCore.list c.answer_line.new.core) c.args.line c.args.bytes.now (turn_of c.answer_line.result) c.answer_line.ensures.tells.0 c.requires.ready.well_formed;
  idle = c.answer_line.ensures.idle;
}
