use Rattle.list_theory.proofs.Elements.{In}
use Rattle.revisions.proofs.Turning.{turned}
use Rattle.revisions.proofs.laws.turns_keep.Goals as goal

pub returns : goal.returns
returns c = λ g b c kept kept_after queue queue_after taken d t r laws k first makes turns. turned g laws b kept (λ u q. In (u, q) queue) taken d k t r first c kept_after (λ u q. In (u, q) queue_after) makes turns
