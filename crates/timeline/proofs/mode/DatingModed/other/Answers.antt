use Rattle.tmm_session.specs.Kinds.{turn_of}
use Rattle.timeline.proofs.StepsKeep.{step_keeps}
use Rattle.timeline.proofs.mode.DatingModed.other.Goals as goal

pub returns-clause-ready : goal.returns-clause-ready
returns-clause-ready g c = record {
  idle = c.answer_line.ensures.idle;
  kept = step_keeps (g.M.MapCore.list c.args.self.now.core) (g.M.MapCore.list c.answer_line.new.core) c.args.line c.args.bytes.now (turn_of c.answer_line.result) c.requires.ready.kept c.answer_line.ensures.tells.0;
}
