use Rattle.list_theory.proofs.Elements.{In}
use Rattle.revisions.proofs.Counting.{at_most}
use Rattle.revisions.proofs.laws.made_are_touched.Goals as goal

pub returns : goal.returns
returns c = λ g b kept queue taken all d k decisions. at_most g b kept (λ t r. In (t, r) queue) taken all d k decisions
