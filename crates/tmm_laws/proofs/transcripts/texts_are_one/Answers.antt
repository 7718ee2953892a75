use Rattle.tmm_laws.proofs.OneText.{texts_are_one}
use Rattle.tmm_laws.proofs.transcripts.texts_are_one.Goals as goal

pub returns : goal.returns
returns c = texts_are_one
