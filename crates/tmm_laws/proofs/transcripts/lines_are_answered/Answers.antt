use Rattle.tmm_laws.proofs.EachAnswered.{lines_are_answered, scripts_are_answered}
use Rattle.tmm_laws.proofs.transcripts.lines_are_answered.Goals as goal

pub returns-clause-lines : goal.returns-clause-lines
returns-clause-lines c = lines_are_answered

pub returns-clause-scripts : goal.returns-clause-scripts
returns-clause-scripts c = scripts_are_answered
