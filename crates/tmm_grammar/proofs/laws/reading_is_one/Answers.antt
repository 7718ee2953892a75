use Rattle.tmm_grammar.proofs.LineForms.{one_reading}
use Rattle.tmm_grammar.proofs.laws.reading_is_one.Goals as goal

pub returns : goal.returns
returns c = one_reading
