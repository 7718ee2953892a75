use Rattle.agents.proofs.Readings.{edit_read}
use Rattle.agents.proofs.reading.held_edit.Goals as goal

pub returns : goal.returns
returns c = edit_read _ _ _ c.in_ok-word.ensures.0 c.in_ok-word.ensures.1 c.edit.result c.edit.ensures
