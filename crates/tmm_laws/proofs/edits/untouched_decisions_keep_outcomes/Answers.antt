use Rattle.belief_theory.proofs.NextLists.{untouched}
use Rattle.tmm_laws.proofs.edits.untouched_decisions_keep_outcomes.Goals as goal

pub returns : goal.returns
returns c = untouched
