use Rattle.tmm_grammar.proofs.LineShown.{shown_reads}
use Rattle.tmm_grammar.proofs.laws.shown_premise_reads.Goals as goal

pub returns : goal.returns
returns c = shown_reads
