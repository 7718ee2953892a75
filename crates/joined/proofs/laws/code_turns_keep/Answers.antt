use Rattle.joined.proofs.CodeTurns.{code_turned}
use Rattle.joined.proofs.laws.code_turns_keep.Goals as goal

pub returns : goal.returns
returns c = code_turned
