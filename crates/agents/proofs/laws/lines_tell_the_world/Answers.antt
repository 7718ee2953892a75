use Rattle.agents.proofs.LinesTell.{lines_tell}
use Rattle.agents.proofs.laws.lines_tell_the_world.Goals as goal

pub returns : goal.returns
returns c = lines_tell
