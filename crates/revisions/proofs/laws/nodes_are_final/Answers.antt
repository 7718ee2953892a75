use Rattle.list_theory.proofs.Elements.{In}
use Rattle.revisions.proofs.Agreeing.{final}
use Rattle.revisions.proofs.laws.nodes_are_final.Goals as goal

pub returns : goal.returns
returns c = λ g b kept taken d e queue laws k least. final g laws b kept (λ t r. In (t, r) queue) taken d k e least
